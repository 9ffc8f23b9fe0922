-- A table that is filled node by node: what an empty one holds, one with a node more, and one with the nodes of a rack.
use mathlib.Core.Path.{◌≡◌, refl, ap, ◌∙◌}
use mathlib.Core.Bool.{Bool, cond}
use mathlib.Core.List.{List}
use Prim.Native.Nat.{ℕ, zero, suc, ◌+◌, ◌-◌, ◌*◌, ◌<◌, ◌≤◌, min, max}
use native.Mathlib.Omega.{arith}
use native.Mathlib.Numerals.{add-one}
use borrow.Author.Tests.{lt-ltb, le-ltb, ltb-true, eqb-true, eqb-false}
use lib.Dec.{ltb, eqb}
use lib.ListN.{length, get_or, set, replicate}
use lib.Seq.{get_or-set_same, get_or-set_other}
use Rattle.rack.specs.declared.Node.{Node}
use Rattle.rack.specs.declared.Rack.{Rack}
use Rattle.rack.specs.declared.Range.{Range}
use Rattle.rack.specs.definitions.Node.{is_bridge, spelt, no_node}
use Rattle.rack.specs.laws.Bools.{tested}
use Rattle.rack.specs.definitions.Tree.{Tree, bridges_below, devices_below, bridge_count, device_count, image_count}
use Rattle.rack.specs.laws.TreeLaws.{tree_same, devices_left}
use Rattle.rack.specs.definitions.Table.{Low, High, End, low_at, high_at, node_at, place_at, depth_at, tree_of, table_with}
use Rattle.rack.specs.definitions.Grow.{memory_of, no_tree, new_depth, grown, tree_with, counting, tree}
use Rattle.rack.specs.laws.GrowLaws.{with_count}
use Rattle.rack.proofs.Words.{kept, low_in, high_in, end_in, low_same, high_same, node_same, node_back}

all_0 : (m k : ℕ) → get_or {A = ℕ} (replicate m 0) k 0 ≡ 0
all_0 zero k = refl
all_0 (suc m) zero = refl
all_0 (suc m) (suc k) = all_0 m k

-- a table of zeroes but for host memory holds no node
module _ (h : Range) where
  abbrev empty : List ℕ
  empty = set (set (replicate 195 0) 192 h.first) 193 h.last

  zero_in : (j : ℕ) → j < 192 → get_or empty j 0 ≡ 0
  zero_in j l =
      get_or-set_other (set (replicate 195 0) 192 h.first) 193 j h.last 0 (λ e. omega arith)
      ∙ get_or-set_other (replicate 195 0) 192 j h.first 0 (λ e. omega arith) ∙ all_0 195 j

  no_low : (k : ℕ) → low_at empty k ≡ 0
  unfolding low_at
  no_low k = tested (ltb k 96) (λ q. let b : k < 96 = ltb-true k 96 q in rw (q, zero_in (2 * k) (omega arith))) (λ q. rw q)

  no_high : (k : ℕ) → high_at empty k ≡ 0
  unfolding high_at
  no_high k = tested (ltb k 96) (λ q. let b : k < 96 = ltb-true k 96 q in rw (q, zero_in (2 * k + 1) (omega arith))) (λ q. rw q)

  no_node_lem : (k : ℕ) → node_at empty k ≡ spelt no_node
  unfolding node_at
  no_node_lem k = rw (no_low k, no_high k)

  no_place : (k : ℕ) → place_at empty k ≡ 0
  no_place k = rw (no_low k)

  no_depth : (k : ℕ) → depth_at empty k ≡ 0
  no_depth k = rw (no_high k) (omega arith)

  pub none_held : (host : Range) → h ≡ memory_of host → tree_of empty ≡ no_tree host
  none_held host e = tree_same refl e no_node_lem no_place no_depth refl

-- the depth of a new node's bus is at most its number and one
pub new_le : (table : List ℕ) (parent : ℕ) → new_depth (tree_of table) parent ≤ (tree_of table).count + 1
new_le table parent =
    tested (ltb parent (tree_of table).count)
    (λ q. rw q (omega (arith, ltb-true parent (tree_of table).count q)))
    (λ q. rw q (omega arith))

-- as the code finds it
pub new_is : (t : Tree) (parent : ℕ) {count depth : ℕ} → count ≡ t.count → parent < count → depth ≡ t.depth_of parent → depth + 1 ≡ new_depth t parent
new_is t parent at l e = rw (lt-ltb parent t.count (rw at at l), e)

pub new_root : (t : Tree) (parent : ℕ) {count : ℕ} → count ≡ t.count → count ≤ parent → 1 ≡ new_depth t parent
new_root t parent at l = rw (le-ltb parent t.count (rw at at l))

module _ (table : List ℕ) {lo hi p d g end : ℕ} (n : Node) (long : length table ≡ 195) (room : (tree_of table).count < 96)
    (place : p ≡ image_count (tree_of table) n.kind) (depth : d ≡ new_depth (tree_of table) n.parent)
    (low : Low n p lo) (high : High n d hi) (last : End ((tree_of table).count + 1) g end) where
  abbrev count : ℕ
  count = (tree_of table).count

  abbrev after : List ℕ
  after = table_with table count lo hi end

  new_node : node_at after count ≡ spelt n
  unfolding node_at
  new_node =
      rw (low_in table count lo hi end long room, high_in table count lo hi end long room) (node_back n p d lo hi low high)

  new_place : place_at after count ≡ p
  new_place = rw (low_in table count lo hi end long room) low.byte_3

  new_depth_lem : depth_at after count ≡ d
  new_depth_lem = rw (high_in table count lo hi end long room, high.byte_6) (omega (arith, depth, new_le table n.parent))

  module _ (k : ℕ) (ne : k ≡ count → ⊥) where
    low_kept : k < 96 → get_or after (2 * k) 0 ≡ get_or table (2 * k) 0
    low_kept l = kept table count lo hi end (2 * k) (omega arith) (λ e. ne (omega arith)) (λ e. omega arith)

    high_kept : k < 96 → get_or after (2 * k + 1) 0 ≡ get_or table (2 * k + 1) 0
    high_kept l = kept table count lo hi end (2 * k + 1) (omega arith) (λ e. omega arith) (λ e. ne (omega arith))

  -- what is read of the new node, and of each other
  split : {A : Type 0} (read : List ℕ → ℕ → A) (new : A) → read after count ≡ new
      → ((k : ℕ) → (k ≡ count → ⊥) → read after k ≡ read table k) → (k : ℕ) → read after k ≡ cond (eqb k count) new (read table k)
  split read new own other k =
      tested (eqb k count) (λ q. rw q (ap (read after) (eqb-true k count q) ∙ own)) (λ q. rw q (other k (eqb-false k count q)))

  -- a table with one node more holds the tree with one node more
  grown_held : g ≡ max (tree_of table).deepest (cond (is_bridge n.kind) (new_depth (tree_of table) n.parent) 0) → tree_of after ≡ grown (tree_of table) n
  unfolding grown
  grown_held greatest =
      tree_same (rw (end_in table count lo hi end long room) last.byte_0)
      (rw (
        kept table count lo hi end 192 (omega arith) (λ e. omega arith) (λ e. omega arith),
        kept table count lo hi end 193 (omega arith) (λ e. omega arith) (λ e. omega arith),
      ))
      (split node_at (spelt n) new_node (λ k ne. node_same after table k (low_kept k ne) (high_kept k ne)))
      (split place_at (image_count (tree_of table) n.kind) (new_place ∙ place) (λ k ne. rw (low_same after table k (low_kept k ne) (high_kept k ne))))
      (split depth_at (new_depth (tree_of table) n.parent) (new_depth_lem ∙ depth) (λ k ne. rw (high_same after table k (low_kept k ne) (high_kept k ne))))
      (rw (end_in table count lo hi end long room) (last.byte_1 ∙ greatest))

-- as the code finds it
pub one_more : (table : List ℕ) {after : List ℕ} {count lo hi p d g e k end : ℕ} {b : Bool} (n : Node) → length table ≡ 195 → (tree_of table).count < 96
    → count ≡ (tree_of table).count → b ≡ is_bridge n.kind
    → p ≡ cond b (bridge_count (tree_of table)) (device_count (tree_of table))
    → d ≡ new_depth (tree_of table) n.parent → g ≡ (tree_of table).deepest → e ≡ cond b d 0 → k ≡ max g e
    → Low n p lo → High n d hi → End (count + 1) k end → after ≡ table_with table count lo hi end → tree_of after ≡ grown (tree_of table) n
one_more table n long room at is place depth old picked greatest low high last put =
    rw (put, at)
    (grown_held table n long room
    (place ∙ rw is) depth low high
    (rw at at last) (rw (greatest, picked, old, is, depth)))

-- the tree of the first nodes of a rack
abbrev pub tree_to : Rack → ℕ → Tree
tree_to rack k = tree_with (record { first = rack.first; last = rack.last }) (λ i. get_or rack.nodes i no_node) k

pub to_none : (rack : Rack) {t : Tree} {h : Range} → h ≡ record { first = rack.first; last = rack.last } → t ≡ no_tree h → t ≡ tree_to rack 0
unfolding tree_with
to_none rack e z = z ∙ ap no_tree e

pub to_more : (rack : Rack) (k : ℕ) {t u : Tree} → t ≡ tree_to rack k → u ≡ grown t (get_or rack.nodes k no_node) → u ≡ tree_to rack (k + 1)
unfolding tree_with
to_more rack k e g = rw (add-one k) (g ∙ ap (λ (t : Tree). grown t (get_or rack.nodes k no_node)) e)

-- the place of a device after the last, by the count of bridges alone
pub devices_next : (node : ℕ → Node) {n count bridges : ℕ} → n ≡ count → bridges ≡ bridges_below node n
    → n - bridges ≡ devices_below node count
devices_next node at e = rw (e, at, devices_left node _)

-- with the last word set
module _ (table : List ℕ) (end : ℕ) where
  stays : (j : ℕ) → j < 194 → get_or (set table 194 end) j 0 ≡ get_or table j 0
  stays j l = get_or-set_other table 194 j end 0 (λ e. omega arith)

  pub ends : {c g : ℕ} → length table ≡ 195 → g ≡ (tree_of table).deepest → End c g end → tree_of (set table 194 end) ≡ counting c (tree_of table)
  ends long deep last =
      tree_same (rw (get_or-set_same table 194 end 0 (omega arith)) last.byte_0)
      (rw (stays 192 (omega arith), stays 193 (omega arith)))
      (λ k. node_same (set table 194 end) table k (low k) (high k))
      (λ k. rw (low_same (set table 194 end) table k (low k) (high k)))
      (λ k. rw (high_same (set table 194 end) table k (low k) (high k)))
      (rw (get_or-set_same table 194 end 0 (omega arith)) (last.byte_1 ∙ deep))
    where
      low : (k : ℕ) → k < 96 → get_or (set table 194 end) (2 * k) 0 ≡ get_or table (2 * k) 0
      low k l = stays (2 * k) (omega arith)

      high : (k : ℕ) → k < 96 → get_or (set table 194 end) (2 * k + 1) 0 ≡ get_or table (2 * k + 1) 0
      high k l = stays (2 * k + 1) (omega arith)

pub to_room : (rack : Rack) (table : List ℕ) {i n : ℕ} → tree_of table ≡ tree_to rack i → n ≡ min 96 rack.count → i < n
    → (tree_of table).count < 96
to_room rack table {i} e m l = omega (arith, m, ap (λ (t : Tree). t.count) e, with_count (record { first = rack.first; last = rack.last }) (λ k. get_or rack.nodes k no_node) i)

-- all of them
pub to_all : (rack : Rack) {t u : Tree} {i n : ℕ} → t ≡ tree_to rack i → n ≡ min 96 rack.count → i ≤ n → n ≤ i
    → u ≡ counting rack.count t → u ≡ tree rack
to_all rack {t} {u} {i} {n} e m a b c =
    let w : i ≡ min 96 rack.count = omega (arith, m) in
    c ∙ rw (e, w)
