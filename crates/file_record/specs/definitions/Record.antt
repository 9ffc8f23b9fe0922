-- The records of a rack file. 01: 'One byte of kind, then a body'.
use Rattle.std.specs.Prelude.{ℕ, ◌+◌, Bool, ◌&&◌, ◌||◌, cond, List, [], ◌∷◌, ltb, eqb, length, get_or, take, drop}
use Rattle.rack.specs.declared.Kind.{Kind}
use Rattle.rack.specs.declared.Region.{Region}
use Rattle.rack.specs.declared.Node.{Node}
use Rattle.rack.specs.definitions.Node.{kind_from, is_bridge, no_region}
use Rattle.rack.specs.declared.Range.{Range}
use Rattle.seat.specs.declared.SeatRecord.{SeatRecord}
use Rattle.file_record.specs.declared.Class.{Class}
use Rattle.file_record.specs.declared.Class.TheVariants as class
use Rattle.file_record.specs.definitions.Number.{byte_in, word_in, qword_in}

-- the class of a kind's records, and the length of their bodies
pub record Form : Type 0 where
  pub class : Class
  pub body : ℕ

abbrev pub form : Class → ℕ → Form
form c n = record { class = c; body = n }

abbrev pub no_form : Form
no_form = form class.Unknown 0

-- 01: '1 host (16 bytes)', '2 bridge (6)', '3 device (12)', '4 configuration write (8)', '5 configuration read (3)', '6 memory
-- access (10)', '7 I/O access (6)', '8 check (0)'; 'Kinds 1 to 3 are rack records, 4 to 8 events'. 02, E11: 'Kind 13 has kind 2's body'; E1: 'A seat
-- record (kind 9: seat, node, two-byte mask ..) stands among the rack records', 'Event kind 10 (seat)'; E2: 'Kind 11 holds a node and its 64
-- register bytes'
abbrev pub forms : List Form
forms =
    no_form ∷ form class.Host 16 ∷ form class.Node 6 ∷ form class.Node 12 ∷ form class.Event 8 ∷ form class.Event 3
    ∷ form class.Event 10 ∷ form class.Event 6 ∷ form class.Event 0 ∷ form class.Seat 4 ∷ form class.Event 1
    ∷ form class.Registers 65 ∷ no_form ∷ form class.Node 6 ∷ []

unfoldable pub form_of : ℕ → Form
form_of kind = get_or forms kind no_form

-- a record's bytes, its kind too
abbrev pub size_of : ℕ → ℕ
size_of kind = (form_of kind).body + 1

abbrev pub class_in : List ℕ → ℕ → Class
class_in b o = (form_of (byte_in b o)).class

-- classes are told apart by a number
abbrev pub class_number : Class → ℕ
class_number class.Unknown = 0
class_number class.Host = 1
class_number class.Node = 2
class_number class.Seat = 3
class_number class.Registers = 4
class_number class.Event = 5

abbrev pub is_a : Class → Class → Bool
is_a k c = eqb (class_number k) (class_number c)

-- a record of the rack itself: host, node or seat. A register record 'stands after all other rack records'
abbrev pub is_rack : Class → Bool
is_rack c = (is_a class.Host c || is_a class.Node c) || is_a class.Seat c

-- 2: 'The kind is not 1 to 8'; 02, E11: 'Kind 13 becomes known to refusal 2'; E1: 'Kinds 9 and 10 become known to refusal 2'; E2: 'Kind 11
-- becomes known'. In the rack records of a C call, which are no whole file, 'an event kind there being 2', and 'In a C call's rack bytes kind 11
-- is 2'
abbrev pub is_known : Bool → Class → Bool
is_known whole c = is_rack c || (whole && (is_a class.Registers c || is_a class.Event c))

-- 3: 'The body is cut short'
unfoldable pub cut_short : List ℕ → ℕ → Bool
cut_short b o = ltb (length b) (o + size_of (byte_in b o))

-- 01: '1 host (16 bytes): first and last address of host memory, 8 bytes each'
abbrev pub host_in : List ℕ → ℕ → Range
host_in b o = record { first = qword_in b (o + 1); last = qword_in b (o + 9) }

-- 01: '3 device (12): the same six bytes, then three regions of kind (1) and exponent e (1)'
abbrev pub region_from : List ℕ → ℕ → Region
region_from b o = record { kind = byte_in b o; exponent = byte_in b (o + 1) }

abbrev pub kind_in : List ℕ → ℕ → Kind
kind_in b o = kind_from (byte_in b o)

abbrev pub node_of : Kind → List ℕ → ℕ → Region → Region → Region → Node
node_of k b o r s u =
    record {
      kind = k;
      parent = byte_in b (o + 1);
      device = byte_in b (o + 2);
      vendor_id = word_in b (o + 3);
      device_id = word_in b (o + 5);
      regions = r ∷ s ∷ u ∷ [];
    }

-- 01: '2 bridge (6): parent, device number, vendor ID (2), device ID (2)'; a bridge of either kind has no regions
unfoldable pub node_in : List ℕ → ℕ → Node
node_in b o =
    cond (is_bridge (kind_in b o)) (node_of (kind_in b o) b o no_region no_region no_region)
    (node_of (kind_in b o) b o (region_from b (o + 7)) (region_from b (o + 9)) (region_from b (o + 11)))

-- 02, E1: 'kind 9: seat, node, two-byte mask'
abbrev pub seat_in : List ℕ → ℕ → SeatRecord
seat_in b o = record { seat = byte_in b (o + 1); node = byte_in b (o + 2); mask = word_in b (o + 3) }

-- 02, E2: 'Kind 11 holds a node and its 64 register bytes': those of the record at an offset
abbrev pub registers_in : List ℕ → ℕ → List ℕ
registers_in b o = take 64 (drop (o + 2) b)
