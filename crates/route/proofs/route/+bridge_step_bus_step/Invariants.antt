use Prim.Native.Nat.{◌+◌}
use Rattle.route.proofs.route.+bridge_step_bus_step.Given as goal

abbrev pub decreases-bridge_step : goal.decreases-bridge_step
decreases-bridge_step l = l.left + l.left + 1

abbrev pub decreases-bus_step : goal.decreases-bus_step
decreases-bus_step l = l.left + l.left
