use Rattle.seat.proofs.Asked.{wrong_by}
use borrow.Author.Rules.{rules}
use Rattle.seat.proofs.grow.seat_wrong.Goals as goal

pub returns : goal.returns
returns c = search (wrong_by, rules)
