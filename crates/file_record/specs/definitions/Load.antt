-- The reading of rack records, one after another: a rack file, or the rack bytes of a C call.
use Rattle.std.specs.Prelude.{ℕ, zero, suc, ◌+◌, Bool, true, false, not, ◌&&◌, ◌||◌, cond, List, [], ◌∷◌, leb, ltb, eqb, length, get_or}
use Rattle.rack.specs.definitions.First.{◌when◌, ◌or◌, first}
use Rattle.rack.specs.definitions.Tree.{Tree, parent_of}
use Rattle.rack.specs.definitions.Grow.{no_memory, no_tree, nodes_with, grown}
use Rattle.rack.specs.definitions.Refusal.{node_refusal}
use Rattle.rack.specs.declared.Node.{Node}
use Rattle.register_header.specs.definitions.PciRegs.{BRIDGE_CONTROL, BRIDGE_CTL_BUS_RESET}
use Rattle.register_header.specs.definitions.Register.{bit_at}
use Rattle.register_image.specs.definitions.Reset.{is_changed}
use Rattle.register_image.specs.definitions.Fixed.{part_wrong}
use Rattle.bus_reset.specs.definitions.Held.{above}
use Rattle.seat.specs.definitions.Grants.{Grants, no_grants, seat_wrong, seated}
use Rattle.file_record.specs.declared.Class.{Class}
use Rattle.file_record.specs.declared.Class.TheVariants as class
use Rattle.file_record.specs.definitions.Number.{byte_in}
use Rattle.file_record.specs.definitions.Record.{size_of, class_in, is_a, is_rack, is_known, cut_short, host_in, node_in, seat_in, registers_in}
use Rattle.file_record.specs.definitions.Events.{event_in, event_wrong, event_unknown}

-- what is known in front of a record: its offset, the offsets at which the register records and the events begin (0 before the first of
-- them), the least node that a register record may name, the rack and its grants
pub record Reading : Type 0 where
  pub offset : ℕ
  pub registers : ℕ
  pub events : ℕ
  pub least : ℕ
  pub tree : Tree
  pub grants : Grants

abbrev pub at_start : Reading
at_start = record { offset = 0; registers = 0; events = 0; least = 0; tree = no_tree no_memory; grants = no_grants }

-- 4: 'the first is not a host, or a later one is'
abbrev pub host_wrong : Class → ℕ → Bool
host_wrong c o = cond (eqb o 0) (not (is_a class.Host c)) (is_a class.Host c)

-- 5: 'A rack record follows an event'; 02, E1: '5 covers kind 9'; E2: '5 also covers a register record after an event and any other rack
-- record after a register record'
abbrev pub follows_later : Class → ℕ → ℕ → Bool
follows_later c registers events =
    is_rack c && not (eqb registers 0 && eqb events 0) || is_a class.Registers c && not (eqb events 0)

-- 2 to 5, of a record's kind, length and place; `whole` says whether these are records of a whole file, or the rack bytes of a C call
abbrev pub shape_faults : Bool → List ℕ → Class → ℕ → ℕ → ℕ → List ℕ
shape_faults whole b c o registers events =
    2 when not (is_known whole c) ∷ 3 when cut_short b o ∷ 4 when host_wrong c o ∷ 5 when follows_later c registers events ∷ []

unfoldable pub shape_fault : Bool → List ℕ → Class → ℕ → ℕ → ℕ → ℕ
shape_fault whole b c o registers events = first (shape_faults whole b c o registers events)

-- 6 to 10, of a node after those before it
unfoldable pub node_fault : List ℕ → ℕ → Tree → ℕ
node_fault b o t = node_refusal (nodes_with t (node_in b o)) t.count

-- 13, of an event
abbrev pub field_fault : List ℕ → ℕ → Tree → ℕ
field_fault b o t = 13 when event_wrong t (event_in b o)

-- 14, of a seat record after the nodes and grants before it
abbrev pub is_faulty : List ℕ → ℕ → Tree → Grants → Bool
is_faulty b o t g = seat_wrong t.count g (seat_in b o)

abbrev pub seat_fault : List ℕ → ℕ → Tree → Grants → ℕ
seat_fault b o t g = 14 when is_faulty b o t g

-- 15, of an event
abbrev pub unknown_fault : List ℕ → ℕ → Grants → ℕ
unknown_fault b o g = 15 when event_unknown g (event_in b o)

-- both of an event
abbrev pub event_fault : List ℕ → ℕ → Tree → Grants → ℕ
event_fault b o t g = field_fault b o t or unknown_fault b o g

-- 16, of a register record: 'whose node is missing or not above the one before'
abbrev pub misplaced : List ℕ → ℕ → Tree → ℕ → Bool
misplaced b o t least = leb t.count (byte_in b (o + 1)) || ltb (byte_in b (o + 1)) least

abbrev pub place_fault : List ℕ → ℕ → Tree → ℕ → ℕ
place_fault b o t least = 16 when misplaced b o t least

-- 17: 'one that equals reset or changes a fixed bit'
abbrev pub unsound : Node → List ℕ → Bool
unsound n part = not (is_changed n part) || part_wrong n part

abbrev pub value_fault : List ℕ → ℕ → Tree → ℕ
value_fault b o t = 17 when unsound (t.node (byte_in b (o + 1))) (registers_in b o)

-- the register record at an offset is bridge g's, and has bit 6 of bridge control set
abbrev pub resets_at : List ℕ → ℕ → ℕ → Bool
resets_at b o g = eqb (byte_in b (o + 1)) g && bit_at (get_or (registers_in b o) BRIDGE_CONTROL 0) BRIDGE_CTL_BUS_RESET

-- one of the register records from an offset on, as long as one ends by `end`, is such; at most `left` of them
unfoldable pub record_resets : ℕ → List ℕ → ℕ → ℕ → ℕ → Bool
record_resets zero b end o g = false
record_resets (suc left) b end o g = cond (ltb end (o + 66)) false (resets_at b o g || record_resets left b end (o + 66) g)

-- a bridge above the node of the register record at an offset has bit 6 set in one of the register records before it, which stand from
-- `start` on. There are none of such a bridge after it: nodes ascend, and a parent is an earlier node
abbrev pub record_held : List ℕ → ℕ → Tree → ℕ → Bool
record_held b o t start = above t (record_resets (length b) b o start) (parent_of t (byte_in b (o + 1)))

-- 18, of a register record, whose registers by 17 are not those of reset; 02, E5: 'Every saved or lent image must agree: below a set bit 6
-- all registers have reset values'. A node without a record is at reset. Where there is no register record yet, `registers` is 0
abbrev pub agreement_fault : List ℕ → ℕ → Tree → ℕ → ℕ
agreement_fault b o t registers = 18 when record_held b o t (registers or o)

-- all three of a register record
abbrev pub register_fault : List ℕ → ℕ → Tree → ℕ → ℕ → ℕ
register_fault b o t registers least = place_fault b o t least or value_fault b o t or agreement_fault b o t registers

-- 01, 'Refused, in this order', of a record; 02, E1: 'both after 13'; E2: 16 and 17 'after 15'; E5: '18, after 17'. A faulty seat record
-- stops a whole file; in the rack bytes of a C call, where 14 comes after refusals that are found later, it is noted
abbrev pub record_faults : Bool → List ℕ → Reading → List ℕ
record_faults whole b s =
    shape_fault whole b (class_in b s.offset) s.offset s.registers s.events
    ∷ node_fault b s.offset s.tree when is_a class.Node (class_in b s.offset)
    ∷ field_fault b s.offset s.tree when is_a class.Event (class_in b s.offset)
    ∷ seat_fault b s.offset s.tree s.grants when (whole && is_a class.Seat (class_in b s.offset))
    ∷ unknown_fault b s.offset s.grants when is_a class.Event (class_in b s.offset)
    ∷ place_fault b s.offset s.tree s.least when is_a class.Registers (class_in b s.offset)
    ∷ value_fault b s.offset s.tree when is_a class.Registers (class_in b s.offset)
    ∷ agreement_fault b s.offset s.tree s.registers when is_a class.Registers (class_in b s.offset) ∷ []

-- the first number that applies, 0 where none does
unfoldable pub record_fault : Bool → List ℕ → Reading → ℕ
record_fault whole b s = first (record_faults whole b s)

-- the record taken in
unfoldable pub taken : List ℕ → Reading → Reading
taken b s =
    record {
      offset = s.offset + size_of (byte_in b s.offset);
      registers = cond (is_a class.Registers (class_in b s.offset)) (s.registers or s.offset) s.registers;
      events = cond (is_a class.Event (class_in b s.offset)) (s.events or s.offset) s.events;
      least = cond (is_a class.Registers (class_in b s.offset)) (byte_in b (s.offset + 1) + 1) s.least;
      tree =
          cond (is_a class.Host (class_in b s.offset)) (no_tree (host_in b s.offset))
          (cond (is_a class.Node (class_in b s.offset)) (grown s.tree (node_in b s.offset)) s.tree);
      grants =
          cond (is_a class.Seat (class_in b s.offset)) (seated s.tree.count s.grants (seat_in b s.offset)) s.grants;
    }

-- a refusal and its offset; or 0, the offset at which the events begin or, without events, the records end, that at which the register
-- records begin or, without them, the events, the rack and its grants
pub record Loading : Type 0 where
  pub refusal : ℕ
  pub offset : ℕ
  pub registers : ℕ
  pub tree : Tree
  pub grants : Grants

abbrev pub loaded : Reading → Loading
loaded s =
    record {
      refusal = 0;
      offset = s.events or s.offset;
      registers = s.registers or s.events or s.offset;
      tree = s.tree;
      grants = s.grants;
    }

abbrev pub refused : ℕ → ℕ → Loading
refused n o = record { refusal = n; offset = o; registers = 0; tree = no_tree no_memory; grants = no_grants }

-- 01: 'A file stops at its first faulty record, with the record's offset': at most `left` records
unfoldable pub read_from : ℕ → Bool → List ℕ → Reading → Loading
read_from zero whole b s = loaded s
read_from (suc left) whole b s =
    cond (leb (length b) s.offset) (loaded s)
    (cond (eqb (record_fault whole b s) 0) (read_from left whole b (taken b s)) (refused (record_fault whole b s) s.offset))

-- 1: 'The file is longer than 65,536 bytes', at 65,536; 4: 'There is no record', at 0. A record has at least one byte, so there are no
-- more of them than bytes
unfoldable pub read_in : Bool → List ℕ → Loading
read_in whole b =
    cond (ltb 65536 (length b)) (refused 1 65536)
    (cond (eqb (length b) 0) (refused 4 0) (read_from (length b) whole b at_start))

-- a whole file
abbrev pub file_in : List ℕ → Loading
file_in b = read_in true b

-- 01: 'The two C calls take the rack records as bytes: 1 to 10 as for a file, an event kind there being 2'
abbrev pub rack_alone : List ℕ → Loading
rack_alone b = read_in false b
