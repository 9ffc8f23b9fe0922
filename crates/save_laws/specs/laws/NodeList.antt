-- The nodes of a rack that is read are its node records, in their order.
use Rattle.std.specs.Prelude.{◌≡◌, refl, Bool, leb, eqb, length, get_or}
use Rattle.std.proofs.Common.{sym, ◌∙◌, arith, add-one, length-append}
use Rattle.std.proofs.Math.Path.{ap}
use mathlib.Core.List.{List, [], ◌∷◌, ◌++◌, append_assoc, append-nil}
use Prim.Native.Nat.{ℕ, zero, suc, ◌+◌, ◌≤◌, ◌<◌}
use Rattle.std.proofs.Math.ListN.{get_or-append}
use Rattle.std.proofs.Math.Seq.{get_or-append_seam}
use borrow.Author.Tests.{leb-true, leb-false, eqb-true, eqb-false, eq-eqb, ne_eqb}
use Rattle.rack.specs.declared.Node.{Node}
use Rattle.rack.specs.definitions.Node.{is_bridge, spelt, no_node}
use Rattle.rack.specs.definitions.Tree.{Tree}
use Rattle.rack.specs.definitions.Grow.{grown}
use Rattle.rack.specs.laws.Bools.{tested}
use Rattle.file_record.specs.declared.Class.TheVariants as class
use Rattle.file_record.specs.definitions.Record.{class_in, is_a, kind_in, node_in}
use Rattle.file_record.specs.definitions.Load.{Reading, at_start, record_fault, taken, read_from, read_in}
use Rattle.file_record.specs.laws.Steps.{is_a_lem}
use Rattle.file_record.specs.laws.Turns.{read_past, read_stop, read_step, read_all, taken_later}
use Rattle.file_record.specs.laws.LoadLaws.{read_long, read_some}
use Rattle.save_laws.specs.definitions.Listed.{each_record, only, node_records}
use Rattle.save_laws.specs.laws.Loaded.{host_first}

-- the first n of some nodes
first_nodes : (ℕ → Node) → ℕ → List Node
first_nodes node zero = []
first_nodes node (suc n) = first_nodes node n ++ (node n ∷ [])

first_same : (f g : ℕ → Node) (n : ℕ) → ((i : ℕ) → i < n → f i ≡ g i) → first_nodes f n ≡ first_nodes g n
unfolding first_nodes
first_same f g zero h = refl
first_same f g (suc n) h = rw (first_same f g n (λ i l. h i (omega arith)), h n (omega arith))

first_length : (f : ℕ → Node) (n : ℕ) → length (first_nodes f n) ≡ n
unfolding first_nodes
first_length f zero = refl
first_length f (suc n) = length-append (first_nodes f n) (f n ∷ []) ∙ omega (arith, first_length f n)

first_at_lem : (f : ℕ → Node) (n i : ℕ) → i < n → get_or (first_nodes f n) i no_node ≡ f i
unfolding first_nodes
first_at_lem f zero i l = absurd (omega arith)
first_at_lem f (suc n) i l =
    tested (eqb i n)
    (λ q.
    let e : i ≡ length (first_nodes f n) = eqb-true i n q ∙ sym (first_length f n) in
    ap (λ (k : ℕ). get_or (first_nodes f n ++ (f n ∷ [])) k no_node) e ∙ get_or-append_seam (first_nodes f n) (f n) [] no_node
    ∙ ap f (sym (eqb-true i n q)))
    (λ q.
    let k : i < n = omega (arith, eqb-false i n q) in
    get_or-append (first_nodes f n) (f n ∷ []) no_node i (omega (arith, first_length f n)) ∙ first_at_lem f n i k)

-- the nodes of a tree, and with one more
abbrev nodes_in : Tree → List Node
nodes_in t = first_nodes t.node t.count

nodes_grown : (t : Tree) (n : Node) → nodes_in (grown t n) ≡ nodes_in t ++ (spelt n ∷ [])
unfolding grown first_nodes
nodes_grown t n =
    rw (add-one t.count, eq-eqb t.count t.count refl)
    (ap (λ (x : List Node). x ++ (spelt n ∷ []))
    (first_same _ t.node t.count (λ i l. rw (ne_eqb i t.count (λ e. omega arith)))))

-- a node's record is spelt out
node_spelt : (b : List ℕ) (o : ℕ) → spelt (node_in b o) ≡ node_in b o
unfolding node_in
node_spelt b o = tested (is_bridge (kind_in b o)) (λ q. rw (q, q)) (λ q. rw (q, q))

module _ (whole : Bool) (b : List ℕ) where
  abbrev node_at : ℕ → List Node
  node_at o = only (is_a class.Node (class_in b o)) (node_in b o)

  -- a record without a fault adds its node; a host, which has none, is the first record and leaves none
  taken_nodes : (s : Reading) → record_fault whole b s ≡ 0 → (s.offset ≡ 0 → s.tree.count ≡ 0)
      → nodes_in (taken b s).tree ≡ nodes_in s.tree ++ node_at s.offset
  unfolding taken first_nodes
  taken_nodes s z none =
      tested (is_a class.Host (class_in b s.offset))
      (λ h.
      let c = none (host_first whole b s z h) in
      rw (is_a_lem class.Host (class_in b s.offset) h, c))
      (λ h.
      tested (is_a class.Node (class_in b s.offset))
      (λ k.
      rw (h, k) (nodes_grown s.tree (node_in b s.offset) ∙ ap (λ (n : Node). nodes_in s.tree ++ (n ∷ [])) (node_spelt b s.offset)))
      (λ k. rw (h, k) (sym (append-nil (nodes_in s.tree)))))

  -- the records from a reading on
  list_from : (left : ℕ) (s : Reading) → length b ≤ s.offset + left → (s.offset ≡ 0 → s.tree.count ≡ 0)
      → (read_from left whole b s).refusal ≡ 0
      → nodes_in (read_from left whole b s).tree ≡ nodes_in s.tree ++ each_record node_at left b s.offset
  unfolding each_record taken
  list_from zero s l none ok =
      rw (read_past whole b zero s (omega arith)) (sym (append-nil (nodes_in s.tree)))
  list_from (suc left) s l none ok =
      tested (leb (length b) s.offset)
      (λ q. rw (read_past whole b (suc left) s (leb-true (length b) s.offset q), q) (sym (append-nil (nodes_in s.tree))))
      (λ q.
      let i = leb-false (length b) s.offset q in
      tested (eqb (record_fault whole b s) 0)
      (λ w.
      let z = eqb-true (record_fault whole b s) 0 w in
      let step = read_step whole b left s i z in
      let rest = each_record node_at left b (taken b s).offset in
      rw (step, q)
      (list_from left (taken b s) (omega (arith, taken_later whole b s)) (λ e. absurd (omega (arith, e, taken_later whole b s))) (rw step at ok)
      ∙ ap (λ (x : List Node). x ++ rest) (taken_nodes s z none) ∙ append_assoc (nodes_in s.tree) (node_at s.offset) rest))
      (λ w.
      let z = eqb-false (record_fault whole b s) 0 w in
      absurd (z (rw (read_stop whole b left s i z) at ok))))

  -- so the nodes that are read are the node records
  nodes_read : (read_in whole b).refusal ≡ 0 → nodes_in (read_in whole b).tree ≡ node_records b
  unfolding first_nodes
  nodes_read ok =
      let all = read_all whole b (read_long whole b ok) (read_some whole b ok) in
      rw all (list_from (length b) at_start (omega arith) (λ e. refl) (rw all at ok))

  pub records_count : (read_in whole b).refusal ≡ 0 → length (node_records b) ≡ (read_in whole b).tree.count
  records_count ok = ap length (sym (nodes_read ok)) ∙ first_length (read_in whole b).tree.node (read_in whole b).tree.count

  pub record_node : (read_in whole b).refusal ≡ 0 → (i : ℕ) → i < (read_in whole b).tree.count
      → get_or (node_records b) i no_node ≡ (read_in whole b).tree.node i
  record_node ok i l =
      ap (λ (ns : List Node). get_or ns i no_node) (sym (nodes_read ok)) ∙ first_at_lem (read_in whole b).tree.node (read_in whole b).tree.count i l

-- two racks with the same tree have the same node records
pub tree_records : (whole : Bool) (b c : List ℕ) → (read_in whole b).refusal ≡ 0 → (read_in whole c).refusal ≡ 0
    → (read_in whole b).tree ≡ (read_in whole c).tree → node_records b ≡ node_records c
tree_records whole b c ok fine e = sym (nodes_read whole b ok) ∙ ap nodes_in e ∙ nodes_read whole c fine
