use Rattle.rack.specs.definitions.Table.{tree_of}
use Rattle.seat.specs.definitions.Table.{grants_of}
use Rattle.file_save.specs.definitions.Saved.{seat_bytes, seat_of}
use Rattle.file_save.proofs.Puts.{Putting}
use Rattle.file_save.proofs.save.put_seat_nodes.Given as goal

abbrev pub invariant-loop-node : goal.invariant-loop-node
invariant-loop-node l =
    Putting (seat_bytes (grants_of l.grants) l.seat) l.count (seat_of (tree_of l.table) (grants_of l.grants) l.seat) l.at l.initial.out l.node l.next l.out
