use Rattle.rack.specs.definitions.Refusal.{bad_region}
use Rattle.rack_refusals.proofs.bad_region.Goals as goal

pub returns : goal.returns
unfolding bad_region
returns c = simp (c.regions_range.ensures, c.is_bridge.ensures, c.node_at-n.ensures)
