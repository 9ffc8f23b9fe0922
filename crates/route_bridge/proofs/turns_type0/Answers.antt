use Rattle.route_bus.specs.definitions.Cross.{turns_type0}
use Rattle.route_bridge.proofs.turns_type0.Goals as goal

pub returns : goal.returns
unfolding turns_type0
returns c = simp (← c.byte_of-secondary.ensures, c.is_configuration.ensures)
