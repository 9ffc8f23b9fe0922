use borrow.Author.Rules.{rules}
use Rattle.call_open.proofs.Over.{run_over}
use Rattle.call_open.proofs.run_event.Goals as goal

pub returns : goal.returns
returns c =
    let h = run_over _ c.tables_of-t.ensures.0 _ c.tables_of-t.ensures.1 _ _ _ c.run_on.ensures.leaves in
    search rules
