use Rattle.rack.specs.definitions.Table.{tree_of}
use Rattle.seat.specs.definitions.Table.{grants_of}
use Rattle.file_save.specs.definitions.Saved.{seat_of, seats_of}
use Rattle.file_save.proofs.Puts.{Putting}
use Rattle.file_save.proofs.save.put_seats.Given as goal

abbrev pub invariant-loop-seat : goal.invariant-loop-seat
invariant-loop-seat l =
    Putting (seat_of (tree_of l.table) (grants_of l.grants)) 16 (seats_of (tree_of l.table) (grants_of l.grants)) l.at l.initial.out l.seat l.next l.out
