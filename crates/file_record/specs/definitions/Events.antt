-- Events: an event from its record, its kind and values, who acts after it, and refusals 13 and 15.
use Rattle.std.specs.Prelude.{ℕ, ◌+◌, ◌%◌, Bool, false, not, ◌&&◌, ◌||◌, cond, List, [], ◌∷◌, ltb, eqb, length}
use Rattle.rack.specs.definitions.Node.{is_bridge}
use Rattle.rack.specs.definitions.First.{◌when◌, first}
use Rattle.rack.specs.definitions.Tree.{Tree, host}
use Rattle.seat.specs.definitions.Grants.{Grants, Acting, acting, unknown_seat}
use Rattle.file_record.specs.declared.Class.TheVariants as class
use Rattle.file_record.specs.declared.Event.{Event}
use Rattle.file_record.specs.declared.Event.TheVariants.{Write, Read, Memory, Io, Check, Seat}
use Rattle.file_record.specs.definitions.Number.{byte_in, dword_in, qword_in}
use Rattle.file_record.specs.definitions.Record.{size_of, class_in, is_a}

-- the kind and the values of an event's record
abbrev pub event_kind : Event → ℕ
event_kind (Write bus devfn register enables put) = 4
event_kind (Read bus devfn register) = 5
event_kind (Memory initiator direction address) = 6
event_kind (Io initiator direction address) = 7
event_kind Check = 8
event_kind (Seat seat) = 10

abbrev pub event_values : Event → List ℕ
event_values (Write bus devfn register enables put) = bus ∷ devfn ∷ register ∷ enables ∷ put ∷ []
event_values (Read bus devfn register) = bus ∷ devfn ∷ register ∷ []
event_values (Memory initiator direction address) = initiator ∷ direction ∷ address ∷ []
event_values (Io initiator direction address) = initiator ∷ direction ∷ address ∷ []
event_values Check = []
event_values (Seat seat) = seat ∷ []

-- 01: '4 configuration write (8): bus, device times 8 plus function, register, byte enables (bit i for byte i), data (4)', '5
-- configuration read (3): bus, device/function, register', '6 memory access (10): initiator, 0 read or 1 write, address (8)', '7
-- I/O access (6): initiator, 0 or 1, address (4)', '8 check (0)'; 02, E1: 'Event kind 10 (seat)'. Asked of records of these kinds alone
unfoldable pub event_in : List ℕ → ℕ → Event
event_in b o =
    cond (eqb (byte_in b o) 4)
    (Write (byte_in b (o + 1)) (byte_in b (o + 2)) (byte_in b (o + 3)) (byte_in b (o + 4)) (dword_in b (o + 5)))
    (cond (eqb (byte_in b o) 5) (Read (byte_in b (o + 1)) (byte_in b (o + 2)) (byte_in b (o + 3)))
    (cond (eqb (byte_in b o) 6) (Memory (byte_in b (o + 1)) (byte_in b (o + 2)) (qword_in b (o + 3)))
    (cond (eqb (byte_in b o) 7) (Io (byte_in b (o + 1)) (byte_in b (o + 2)) (dword_in b (o + 3)))
    (cond (eqb (byte_in b o) 10) (Seat (byte_in b (o + 1))) Check))))

-- an initiator: the host or a device
abbrev pub initiates : Tree → ℕ → Bool
initiates t i = eqb i host || (ltb i t.count && not (is_bridge (t.node i).kind))

-- 13, of an event: 'A register is no multiple of 4, enables exceed 15, a direction exceeds 1, an initiator is neither host nor
-- device'
abbrev pub register_wrong : ℕ → Bool
register_wrong register = not (eqb (register % 4) 0)

abbrev pub write_wrong : ℕ → ℕ → Bool
write_wrong register enables = register_wrong register || ltb 15 enables

abbrev pub access_wrong : Tree → ℕ → ℕ → Bool
access_wrong t initiator direction = ltb 1 direction || not (initiates t initiator)

unfoldable pub event_wrong : Tree → Event → Bool
event_wrong t (Write bus devfn register enables put) = write_wrong register enables
event_wrong t (Read bus devfn register) = register_wrong register
event_wrong t (Memory initiator direction address) = access_wrong t initiator direction
event_wrong t (Io initiator direction address) = access_wrong t initiator direction
event_wrong t Check = false
event_wrong t (Seat seat) = false

-- 02, E1: 'Event kind 10 (seat) says who acts from then on'
unfoldable pub seat_after : ℕ → Event → ℕ
seat_after s (Write bus devfn register enables put) = s
seat_after s (Read bus devfn register) = s
seat_after s (Memory initiator direction address) = s
seat_after s (Io initiator direction address) = s
seat_after s Check = s
seat_after s (Seat seat) = seat

abbrev pub acts_after : Acting → Event → Acting
acts_after by e = acting by.grants (seat_after by.seat e)

-- 15, of an event: 'a seat other than 0 without a record, in a seat event'; seat 0 stands for an event that names none
abbrev pub event_unknown : Grants → Event → Bool
event_unknown g e = unknown_seat g (seat_after 0 e)

-- 01: 'The event to run is read next ..: no byte or no event kind is 2, any length but its own is 3'; past the end there is no kind
unfoldable pub event_bytes : List ℕ → ℕ
event_bytes b = first (2 when not (is_a class.Event (class_in b 0)) ∷ 3 when not (eqb (length b) (size_of (byte_in b 0))) ∷ [])
