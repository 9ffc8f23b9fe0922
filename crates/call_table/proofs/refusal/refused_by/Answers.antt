use Rattle.std.proofs.Common.{ap}
use Rattle.rack.specs.definitions.Refused.{refusal_number}
use Rattle.call_table.proofs.Calling.{refusals_not_0}
use Rattle.call_table.proofs.refusal.refused_by.Goals as goal

pub returns : goal.returns
returns c = c.refusal_by.ensures refusal_number (λ r e h. ap refusal_number h) (refusals_not_0 c.args.field)
