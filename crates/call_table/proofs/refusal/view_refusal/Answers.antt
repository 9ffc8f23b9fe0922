use Rattle.call_table.proofs.Calling.{missing_is}
use Rattle.call_table.proofs.refusal.view_refusal.Goals as goal

pub returns : goal.returns
returns c = missing_is _ c.count_of-count.ensures c.field_refusal.ensures
