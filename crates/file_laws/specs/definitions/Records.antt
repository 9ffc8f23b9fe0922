-- The records of a file by their numbers, and what it means that a number is given at an offset: it is the first that applies at the
-- first faulty record. Of a record see file_record `Load.record_faults`, and rack_laws `First.list-given`, `list-gives`.
use Rattle.std.specs.Prelude.{◌≡◌, ℕ, zero, suc, ◌<◌, Bool, true, false, List, length}
use Rattle.rack.specs.definitions.First.{First}
use Rattle.file_record.specs.declared.Class.TheVariants as class
use Rattle.file_record.specs.definitions.Record.{class_in, is_a, seat_in}
use Rattle.file_record.specs.definitions.Load.{Reading, at_start, is_faulty, record_fault, taken}

-- what is known in front of record k, the first being record 0: each record begins where the one before it ends
unfoldable pub before : List ℕ → ℕ → Reading
before b zero = at_start
before b (suc k) = taken b (before b k)

-- record k stands in the file
abbrev pub Stands : List ℕ → ℕ → Type 0
Stands b k = (before b k).offset < length b

-- the number that applies at record k of a whole file, or of the rack bytes of a C call; 0 where none does
abbrev pub fault_at : Bool → List ℕ → ℕ → ℕ
fault_at whole b k = record_fault whole b (before b k)

-- number n is given at offset o: that of the first faulty record. A record has at least one byte, so there are no more than bytes
pub record FirstFaulty (whole : Bool) (b : List ℕ) (n o : ℕ) : Type 0 where
  pub first : First (fault_at whole b) (length b) n
  pub stands : Stands b first.place
  pub offset : (before b first.place).offset ≡ o

-- no record of a file has a fault
abbrev pub Faultless : Bool → List ℕ → Type 0
Faultless whole b = (k : ℕ) → Stands b k → fault_at whole b k ≡ 0

-- 02, E1: record k is a seat record that 'names no earlier node, a seat outside 1 to 15, or a seat and node already named together'
abbrev pub FaultySeat : List ℕ → ℕ → Type 0
FaultySeat b k =
    (is_a class.Seat (class_in b (before b k).offset) ≡ true)
    × (is_faulty b (before b k).offset (before b k).tree (before b k).grants ≡ true)

-- record k is a seat record without such a fault: it names a seat and a node together, and says the mask
pub record SoundSeat (b : List ℕ) (k seat node mask : ℕ) : Type 0 where
  pub is_seat_lem : is_a class.Seat (class_in b (before b k).offset) ≡ true
  pub sound : is_faulty b (before b k).offset (before b k).tree (before b k).grants ≡ false
  pub says : seat_in b (before b k).offset ≡ record { seat = seat; node = node; mask = mask }

-- 15: 'a seat other than 0 without a record': no record before record n is one that names it. Of all records of the bytes n is their
-- length
pub record WithoutRecord (b : List ℕ) (n seat : ℕ) : Type 0 where
  pub other : seat ≡ 0 → ⊥
  pub none : (k node mask : ℕ) → k < n → SoundSeat b k seat node mask → ⊥
