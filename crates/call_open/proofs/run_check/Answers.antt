use Rattle.call_open.proofs.Over.{check_over}
use Rattle.call_open.proofs.run_check.Goals as goal

pub returns : goal.returns
returns c = check_over _ c.tables_of-t.ensures.0 _ c.tables_of-t.ensures.1 _ c.check_on.ensures
