use Rattle.call_open.proofs.Over.{read_over}
use Rattle.call_open.proofs.read_register.Goals as goal

pub returns : goal.returns
returns c = read_over _ c.tables_of-t.ensures.0 _ c.tables_of-t.ensures.1 _ _ _ c.read_on.ensures
