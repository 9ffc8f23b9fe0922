use Rattle.claim_window.specs.definitions.Cut.{cut_if}
use Rattle.claim_window.proofs.cut.cut_if.Goals as goal

pub returns-then-on : goal.returns-then-on
unfolding cut_if
returns-then-on c = simp (c.if-on.true, c.cut_at.ensures)

pub returns-else-on : goal.returns-else-on
unfolding cut_if
returns-else-on c = simp c.if-on.false
