use mathlib.Core.Path.{ap}
use lib.Dec.{leb}
use Rattle.seat.proofs.table.is_named.Goals as goal

pub returns : goal.returns
returns c = ap (leb 65536) c.number_at.ensures
