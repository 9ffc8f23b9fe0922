use Rattle.rack.specs.definitions.Table.{node_at}
use Rattle.rack.proofs.table.node_at.Goals as goal

pub returns : goal.returns
unfolding node_at
returns c = cc
