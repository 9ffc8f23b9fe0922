use Rattle.seat.proofs.Filled.{none_held}
use Rattle.seat.proofs.grow.no_grants.Goals as goal

pub returns : goal.returns
returns c = none_held
