use Rattle.rack.proofs.Words.{node_read}
use Rattle.rack.proofs.table.node_from.Goals as goal

pub returns : goal.returns
returns c =
    node_read _ _ c.to_le_bytes-l.ensures c.to_le_bytes-h.ensures c.from.ensures c.from_le_bytes.ensures c.from_le_bytes-2.ensures
