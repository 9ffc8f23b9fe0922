use Rattle.route_bus.specs.definitions.Cross.{other_bus}
use borrow.Author.Tests.{eq-eqb, ne_eqb}
use Rattle.route_bridge.proofs.other_bus.Goals as goal

pub returns-then-g-bus : goal.returns-then-g-bus
unfolding other_bus
returns-then-g-bus c = simp (ne_eqb _ _ c.if-g-bus.true)

pub returns : goal.returns
unfolding other_bus
returns c = simp (eq-eqb _ _ c.if-g-bus.false, c.node_at.ensures)
