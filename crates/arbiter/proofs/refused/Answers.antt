use Rattle.arbiter.specs.definitions.Arbiter.{refused}
use Rattle.arbiter.proofs.refused.Goals as goal

pub returns : goal.returns
unfolding refused
returns c = rw (c.is_high_state-high.ensures, c.is_low_state-low.ensures)
