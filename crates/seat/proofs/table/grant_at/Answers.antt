use mathlib.Core.Path.{ap}
use Rattle.seat.specs.definitions.Table.{grant_from}
use Rattle.seat.proofs.table.grant_at.Goals as goal

pub returns : goal.returns
returns c = ap grant_from c.number_at-number.ensures
