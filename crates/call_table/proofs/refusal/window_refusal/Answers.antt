use Rattle.call_table.proofs.Calling.{missing_or}
use Rattle.call_table.proofs.refusal.window_refusal.Goals as goal

pub returns : goal.returns
returns c = missing_or _ _ c.count_of-count.ensures c.field_refusal.ensures
