use Rattle.std.proofs.Common.{rules, refl}
use borrow.Author.Tests.{tests}
use Rattle.rack.specs.laws.AnyLaws.{any_some}
use Rattle.seat.specs.definitions.Table.{grants_of}
use Rattle.seat.proofs.Asked.{known_zero, unknown_not_named}
use Rattle.seat.proofs.table.unknown_seat.Goals as goal

pub returns-else-seat-ne0 : goal.returns-else-seat-ne0
returns-else-seat-ne0 c = search (known_zero, rules)

pub returns-then-seat-ne0 : goal.returns-then-seat-ne0
returns-then-seat-ne0 c =
    unknown_not_named (grants_of c.args.grants.now) c.args.seat (search rules)
    (any_some (λ node. ((grants_of c.args.grants.now).grant c.args.seat node).named) _ c.any.ensures.ran refl
    (λ x q k. search (rules, tests)) (λ x q k. search (rules, tests)))
