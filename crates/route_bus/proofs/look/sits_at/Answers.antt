use Rattle.route_bus.proofs.look.sits_at.Goals as goal

pub returns : goal.returns
returns c = simp (c.device_at.ensures, c.parent_at.ensures)
