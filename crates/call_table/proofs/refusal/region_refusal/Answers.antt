use Rattle.call_table.proofs.Calling.{missing_bridge}
use Rattle.call_table.proofs.refusal.region_refusal.Goals as goal

pub returns : goal.returns
returns c = missing_bridge _ _ c.count_of-count.ensures c.is_bridge_at-bridge.ensures c.field_refusal.ensures
