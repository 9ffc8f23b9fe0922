use Rattle.call_open.proofs.Over.{ends_over}
use Rattle.call_open.proofs.window_ends.Goals as goal

pub returns : goal.returns
returns c = ends_over _ c.tables_of-t.ensures.0 _ c.tables_of-t.ensures.1 _ _ _ c.ends_on.ensures
