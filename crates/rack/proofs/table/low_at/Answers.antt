use borrow.Author.Tests.{lt-ltb, le-ltb}
use Rattle.rack.specs.definitions.Table.{low_at}
use Rattle.rack.proofs.table.low_at.Goals as goal

pub returns-then-i-lt96 : goal.returns-then-i-lt96
unfolding low_at
returns-then-i-lt96 c = simp (lt-ltb _ _ c.if-i-lt96.true)

pub returns-else-i-lt96 : goal.returns-else-i-lt96
unfolding low_at
returns-else-i-lt96 c = simp (le-ltb _ _ c.if-i-lt96.false)
