use Rattle.std.proofs.Common.{rules, refl}
use borrow.Author.Tests.{tests}
use Rattle.rack.specs.laws.AnyLaws.{any_some}
use Rattle.seat.specs.definitions.Grants.{named_missing}
use Rattle.seat.proofs.grow.names_missing.Goals as goal

pub returns : goal.returns
returns c =
    any_some (named_missing c.args.rack) _ c.any.ensures.ran refl (λ x q k. search (rules, tests)) (λ x q k. search (rules, tests))
