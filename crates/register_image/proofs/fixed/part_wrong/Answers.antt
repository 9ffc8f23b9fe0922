use Rattle.std.proofs.Common.{rules, refl}
use borrow.Author.Tests.{tests}
use Rattle.rack.specs.laws.AnyLaws.{any_some}
use Rattle.register_image.specs.definitions.Fixed.{byte_wrong}
use Rattle.register_image.proofs.fixed.part_wrong.Goals as goal

pub returns : goal.returns
unfolding byte_wrong
returns c = any_some (byte_wrong c.args.n c.args.part.now) 64 c.any.ensures.ran refl (λ x q k. search (rules, tests)) (λ x q k. search (rules, tests))
