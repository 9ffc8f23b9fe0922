use Rattle.call_save.proofs.Saving.{save_over, buffer_over}
use Rattle.call_save.proofs.save_rack.Goals as goal

pub returns : goal.returns
returns c = (
  save_over _ c.table_of-table.ensures _ c.grants_of-grants.ensures _ _ c.save_on.ensures.0,
  buffer_over _ c.table_of-table.ensures _ c.grants_of-grants.ensures _ _ c.save_on.ensures.1,
)
