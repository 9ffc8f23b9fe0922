use Rattle.std.proofs.Common.{eqb}
use Rattle.bus_reset.proofs.held.is_below.Goals as goal

pub returns : goal.returns
returns c = rw (← c.parent_at.ensures) (c.any_above.ensures (eqb c.args.b) (λ x r h. cc))
