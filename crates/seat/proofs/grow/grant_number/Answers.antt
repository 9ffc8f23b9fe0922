use borrow.Author.Rules.{rules}
use Rattle.seat.proofs.grow.grant_number.Goals as goal

pub returns-then-g : goal.returns-then-g
returns-then-g c = (simp c.if-g.true, search rules)

pub returns-else-g : goal.returns-else-g
returns-else-g c = (search rules, search rules)
