use Rattle.seat.proofs.Asked.{number_in, number_out}
use Rattle.seat.specs.laws.Stored.{pair_is}
use borrow.Author.Rules.{rules}
use Rattle.seat.proofs.table.number_at.Goals as goal

pub slot-requires : goal.slot-requires
slot-requires c = pair_is _ _ c.if-seat-node.true

pub returns-then-seat-node : goal.returns-then-seat-node
returns-then-seat-node c = search (number_in, rules)

pub returns-else-seat-node : goal.returns-else-seat-node
returns-else-seat-node c = search (number_out, rules)
