use Rattle.rack.specs.definitions.Table.{tree_of}
use Rattle.file_save.specs.definitions.Saved.{node_bytes, nodes_of}
use Rattle.file_save.proofs.Puts.{Putting}
use Rattle.file_save.proofs.save.put_nodes.Given as goal

abbrev pub invariant-loop-node : goal.invariant-loop-node
invariant-loop-node l =
    Putting (λ i. node_bytes ((tree_of l.table).node i)) l.count (nodes_of (tree_of l.table)) l.at l.initial.out l.node l.next l.out
