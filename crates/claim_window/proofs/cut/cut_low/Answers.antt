use borrow.Author.Tests.{le-leb}
use borrow.Author.Rules.{rules}
use Rattle.claim_window.proofs.Low.{low_is}
use Rattle.claim_window.specs.definitions.Cut.{cut_low}
use Rattle.claim_window.proofs.cut.cut_low.Goals as goal

pub returns-then-a-ge65536 : goal.returns-then-a-ge65536
unfolding cut_low
returns-then-a-ge65536 c = simp (le-leb _ _ c.if-a-ge65536.true)

pub returns : goal.returns
returns c = search (low_is, rules)
