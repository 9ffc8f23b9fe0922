use Rattle.rack.specs.definitions.Refusal.{high_device}
use Rattle.rack_refusals.proofs.high_device.Goals as goal

pub returns : goal.returns
unfolding high_device
returns c = simp c.node_at.ensures
