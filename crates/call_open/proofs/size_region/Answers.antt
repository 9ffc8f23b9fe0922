use borrow.Author.Rules.{rules}
use Rattle.call_open.proofs.Over.{size_over}
use Rattle.call_open.proofs.size_region.Goals as goal

pub returns : goal.returns
returns c =
    let h = c.size_on.ensures.leaves.1 in
    (size_over _ c.tables_of-t.ensures.0 _ c.tables_of-t.ensures.1 _ _ _ c.size_on.ensures.leaves.0, search rules)
