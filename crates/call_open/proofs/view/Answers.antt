use Rattle.call_open.proofs.Over.{view_over}
use Rattle.call_open.proofs.view.Goals as goal

pub returns : goal.returns
returns c = view_over _ c.tables_of-t.ensures.0 _ c.tables_of-t.ensures.1 _ _ c.view_on.ensures
