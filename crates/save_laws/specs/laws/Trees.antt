-- A tree that grows node by node: its nodes, and that it is the tree that a file says.
use Rattle.std.specs.Prelude.{◌≡◌, ltb, eqb}
use Rattle.std.proofs.Math.Path.{refl, sym, fun_ext}
use Rattle.std.proofs.Common.{◌∙◌, arith, add-one}
use Prim.Native.Nat.{ℕ, zero, suc, ◌+◌, ◌≤◌, ◌<◌}
use borrow.Author.Tests.{ne_eqb, eqb-true, eqb-false, ltb-true, ltb-false}
use Rattle.rack.specs.declared.Node.{Node}
use Rattle.rack.specs.declared.Range.{Range}
use Rattle.rack.specs.definitions.Node.{is_bridge, spelt, no_node}
use Rattle.rack.specs.definitions.Tree.{Tree}
use Rattle.rack.specs.definitions.Grow.{memory_of, no_tree, grown, tree_with}
use Rattle.rack.specs.laws.Bools.{tested}
use Rattle.rack.specs.laws.GrowLaws.{with_new, with_earlier, with_count}
use Rattle.rack_laws.specs.laws.OnePass.{StoredBy, none_stored, grown_stored, with_stored}
use Rattle.save_laws.specs.definitions.Said.{SaidTree}

-- trees that store what one pass finds are the same where count, host memory and nodes are
pub stored_same : {t u : Tree} → StoredBy t → StoredBy u → t.count ≡ u.count → t.host_memory ≡ u.host_memory
    → ((i : ℕ) → t.node i ≡ u.node i) → t ≡ u
stored_same {t} {u} p q c h n =
    let e : t.node ≡ u.node = fun_ext n in
    p ∙ rw (c, h, e) (sym q)

module _ (h : Range) (node : ℕ → Node) where
  -- the nodes of a tree of n nodes, and what stands after them
  pub with_node : (n i : ℕ) → i < n → (tree_with h node n).node i ≡ spelt (node i)
  unfolding tree_with grown
  with_node zero i l = absurd (omega arith)
  with_node (suc n) i l =
      tested (eqb i n)
      (λ q. let e = eqb-true i n q in with_new (tree_with h node n) (node n) i (e ∙ sym (with_count h node n)) ∙ rw e)
      (λ q.
      let k : i < n = omega (arith, eqb-false i n q) in
      with_earlier (tree_with h node n) (node n) i (omega (arith, with_count h node n)) ∙ with_node n i k)

  pub with_none : (n i : ℕ) → n ≤ i → (tree_with h node n).node i ≡ spelt no_node
  unfolding tree_with grown
  with_none zero i l = refl
  with_none (suc n) i l =
      rw (ne_eqb i (tree_with h node n).count (λ e. omega (arith, with_count h node n))) (with_none n i (omega arith))

  pub with_host : (n : ℕ) → (tree_with h node n).host_memory ≡ memory_of h
  unfolding tree_with grown
  with_host zero = refl
  with_host (suc n) = with_host n

  pub with_more : (n : ℕ) → tree_with h node (n + 1) ≡ grown (tree_with h node n) (node n)
  unfolding tree_with
  with_more n = rw (add-one n)

-- a tree that a file can say grows from its own nodes
module _ (t : Tree) (said : SaidTree t) where
  pub said_grown : tree_with t.host_memory t.node t.count ≡ t
  said_grown =
      let n = t.count in
      stored_same (with_stored t.host_memory t.node n) said.stored (with_count t.host_memory t.node n)
      (with_host t.host_memory t.node n ∙ said.memory)
      (λ i.
      tested (ltb i n) (λ q. with_node t.host_memory t.node n i (ltb-true i n q) ∙ said.nodes i)
      (λ q. let l = ltb-false i n q in with_none t.host_memory t.node n i l ∙ sym (said.none i l)))

-- a node and host memory that are written out once are written out
spelt_again : (n : Node) → spelt (spelt n) ≡ spelt n
spelt_again n = tested (is_bridge n.kind) (λ q. rw q) (λ q. rw q)

memory_again : (h : Range) → memory_of (memory_of h) ≡ memory_of h
memory_again h = tested (ltb h.last h.first) (λ q. rw q) (λ q. rw (q, q))

-- a tree without nodes can be said, and with one node more
pub none_said : (h : Range) → SaidTree (no_tree h)
none_said h =
    record { memory = memory_again h; nodes = λ i. spelt_again no_node; none = λ i l. refl; stored = none_stored h }

pub grown_said : (t : Tree) (n : Node) → SaidTree t → SaidTree (grown t n)
unfolding grown
grown_said t n s =
    record {
      memory = s.memory;
      nodes = λ i. tested (eqb i t.count) (λ q. rw q (spelt_again n)) (λ q. rw q (s.nodes i));
      none = λ i l. rw (ne_eqb i t.count (λ e. omega arith)) (s.none i (omega arith));
      stored = grown_stored t n s.stored;
    }

pub with_said : (h : Range) (node : ℕ → Node) (n : ℕ) → SaidTree (tree_with h node n)
unfolding tree_with
with_said h node zero = none_said h
with_said h node (suc n) = grown_said (tree_with h node n) (node n) (with_said h node n)
