use Rattle.seat.proofs.Filled.{noted}
use borrow.Author.Rules.{rules}
use Rattle.seat.proofs.grow.note_wrong.Goals as goal

pub returns : goal.returns
returns c = search (noted, rules)
