use Rattle.call_table.proofs.Calling.{wrong_is}
use Rattle.call_table.proofs.refusal.event_refusal.Goals as goal

pub returns : goal.returns
returns c = wrong_is c.event_wrong.ensures c.field_refusal.ensures
