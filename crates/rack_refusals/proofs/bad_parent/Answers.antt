use Rattle.rack.specs.definitions.Refusal.{bad_parent}
use Rattle.rack_refusals.proofs.bad_parent.Goals as goal

pub returns : goal.returns
unfolding bad_parent
returns c = simp (c.is_bridge-bridge.ensures, c.node_at.ensures, c.node_at-n.ensures)
