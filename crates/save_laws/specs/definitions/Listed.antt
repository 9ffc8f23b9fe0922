-- The node records, seat records and register records that a file has, and those that a saved file is to have. Sentences are those of
-- document 02, E2.
use Rattle.std.specs.Prelude.{ℕ, zero, suc, ◌+◌, ◌≡◌, Bool, false, cond, List, [], ◌∷◌, ◌++◌, leb, length}
use Rattle.rack.specs.declared.Node.{Node}
use Rattle.rack.specs.definitions.Tree.{Tree}
use Rattle.seat.specs.declared.SeatRecord.{SeatRecord}
use Rattle.seat.specs.definitions.Grants.{Grants}
use Rattle.register_image.specs.definitions.Image.{Images}
use Rattle.file_record.specs.declared.Class.TheVariants as class
use Rattle.file_record.specs.definitions.Number.{byte_in}
use Rattle.file_record.specs.definitions.Record.{size_of, class_in, is_a, node_in, seat_in}
use Rattle.file_laws.specs.definitions.Records.{before, Stands}
use Rattle.file_save.specs.definitions.Saved.{each}
use Rattle.save_laws.specs.definitions.After.{is_saved}

-- what there is of each record of a file from an offset on, one after another; at most `left` records
unfoldable pub each_record : {A : Type 0} → (ℕ → List A) → ℕ → List ℕ → ℕ → List A
each_record f zero b o = []
each_record f (suc left) b o = cond (leb (length b) o) [] (f o ++ each_record f left b (o + size_of (byte_in b o)))

-- one thing where a test holds
abbrev pub only : {A : Type 0} → Bool → A → List A
only b x = cond b (x ∷ []) []

-- the node records of a file, its seat records, and the nodes of its register records, in the order in which they stand
abbrev pub node_records : List ℕ → List Node
node_records b = each_record (λ o. only (is_a class.Node (class_in b o)) (node_in b o)) (length b) b 0

abbrev pub seat_records : List ℕ → List SeatRecord
seat_records b = each_record (λ o. only (is_a class.Seat (class_in b o)) (seat_in b o)) (length b) b 0

abbrev pub register_nodes : List ℕ → List ℕ
register_nodes b = each_record (λ o. only (is_a class.Registers (class_in b o)) (byte_in b (o + 1))) (length b) b 0

-- 'seats by seat then node': the pairs that are named
abbrev pub granted : Grants → ℕ → ℕ → SeatRecord
granted g seat node = record { seat = seat; node = node; mask = (g.grant seat node).mask }

abbrev pub named_pairs : Tree → Grants → List SeatRecord
named_pairs t g = each (λ seat. each (λ node. only (g.grant seat node).named (granted g seat node)) 0 t.count) 1 15

-- 'by node for exactly those nodes that differ from reset'
abbrev pub changed_nodes : Tree → Images → List ℕ
changed_nodes t im = each (λ i. only (is_saved t im i) i) 0 t.count

-- no record of a file is a register record
abbrev pub NoRegisters : List ℕ → Type 0
NoRegisters b = (k : ℕ) → Stands b k → is_a class.Registers (class_in b (before b k).offset) ≡ false
