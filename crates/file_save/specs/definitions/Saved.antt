-- The file of a rack with its registers, which has one form. Sentences are those of document 02, E2.
use Rattle.std.specs.Prelude.{ℕ, zero, suc, ◌+◌, ◌/◌, ◌%◌, cond, List, [], ◌∷◌, ◌++◌, ◌≡◌, length}
use Rattle.rack.specs.declared.Range.{Range}
use Rattle.rack.specs.declared.Region.{Region}
use Rattle.rack.specs.declared.Node.{Node}
use Rattle.rack.specs.definitions.Buffer.{placed}
use Rattle.rack.specs.definitions.Node.{kind_number, is_bridge, region_in}
use Rattle.rack.specs.definitions.Tree.{Tree}
use Rattle.seat.specs.definitions.Grants.{Grants}
use Rattle.register_image.specs.definitions.Image.{Images, view}
use Rattle.register_image.specs.definitions.Reset.{is_changed}

-- what a function that writes bytes at an index of a buffer answers and leaves: the index after them, and the buffer with them over it
pub record Put (at : ℕ) (bytes old : List ℕ) (next : ℕ) (new : List ℕ) : Type 0 where
  pub end : next ≡ at + length bytes
  pub out : new ≡ placed at bytes old

-- 01: 'bytes are little-endian'
abbrev pub word_bytes : ℕ → List ℕ
word_bytes n = n % 256 ∷ n / 256 ∷ []

abbrev pub dword_bytes : ℕ → List ℕ
dword_bytes n = word_bytes (n % 65536) ++ word_bytes (n / 65536)

abbrev pub qword_bytes : ℕ → List ℕ
qword_bytes n = dword_bytes (n % 4294967296) ++ dword_bytes (n / 4294967296)

-- 'A host without memory is written as first 1, last 0': so a rack's tree has it (rack `Grow.memory_of`)
abbrev pub host_bytes : Range → List ℕ
host_bytes h = 1 ∷ (qword_bytes h.first ++ qword_bytes h.last)

abbrev pub region_bytes : Region → List ℕ
region_bytes r = r.kind ∷ r.exponent ∷ []

abbrev pub regions_bytes : Node → List ℕ
regions_bytes n = region_bytes (region_in n 0) ++ (region_bytes (region_in n 1) ++ region_bytes (region_in n 2))

-- a node's record: kind 2, 3 or 13, with what these have in common; a device's has its regions
abbrev pub head_bytes : Node → List ℕ
head_bytes n =
    kind_number n.kind ∷ n.parent ∷ n.device ∷ (word_bytes n.vendor_id ++ word_bytes n.device_id)

unfoldable pub node_bytes : Node → List ℕ
node_bytes n = head_bytes n ++ cond (is_bridge n.kind) [] (regions_bytes n)

-- a seat record, of a pair that is named
abbrev pub grant_bytes : ℕ → ℕ → ℕ → List ℕ
grant_bytes seat node mask = 9 ∷ seat ∷ node ∷ word_bytes mask

unfoldable pub seat_bytes : Grants → ℕ → ℕ → List ℕ
seat_bytes g seat node = cond (g.grant seat node).named (grant_bytes seat node (g.grant seat node).mask) []

-- 'Kind 11 holds a node and its 64 register bytes'; 'for exactly those nodes that differ from reset'
abbrev pub view_bytes : ℕ → List ℕ → List ℕ
view_bytes i part = 11 ∷ i ∷ part

unfoldable pub register_bytes : Tree → Images → ℕ → List ℕ
register_bytes t im i = cond (is_changed (t.node i) (view t im i)) (view_bytes i (view t im i)) []

-- what there is of each of the `left` numbers from i on, one after another
unfoldable pub each : {A : Type 0} → (ℕ → List A) → ℕ → ℕ → List A
each f i zero = []
each f i (suc left) = f i ++ each f (i + 1) left

abbrev pub nodes_of : Tree → List ℕ
nodes_of t = each (λ i. node_bytes (t.node i)) 0 t.count

-- 'seats by seat then node'
abbrev pub seat_of : Tree → Grants → ℕ → List ℕ
seat_of t g seat = each (seat_bytes g seat) 0 t.count

abbrev pub seats_of : Tree → Grants → List ℕ
seats_of t g = each (seat_of t g) 1 15

abbrev pub registers_of : Tree → Images → List ℕ
registers_of t im = each (register_bytes t im) 0 t.count

-- 'The writer gives host, nodes, seats by seat then node, and register records by node'
unfoldable pub rack_of : Tree → Grants → List ℕ
rack_of t g = host_bytes t.host_memory ++ (nodes_of t ++ seats_of t g)

unfoldable pub saved_file : Tree → Grants → Images → List ℕ
saved_file t g im = rack_of t g ++ registers_of t im
