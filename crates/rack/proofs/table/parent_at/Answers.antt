use Rattle.rack.specs.definitions.Table.{node_at}
use Rattle.rack.proofs.table.parent_at.Goals as goal

pub returns : goal.returns
unfolding node_at
returns c = rw (c.to_le_bytes.ensures, c.low_at.ensures)
