-- What one pass over the nodes finds: the place of each, the depth of the bus it holds, and the greatest depth. Trees that grow
-- node by node store it.
use Rattle.std.specs.Prelude.{◌≡◌, cond, ℕ, zero, suc, ◌+◌, ◌≤◌, ◌<◌, max, ltb, eqb}
use Rattle.std.proofs.Math.Path.{refl}
use Rattle.std.proofs.Common.{sym, ap, ◌∙◌, arith, add-one, eq-eqb, ne_eqb, eqb-true, lt-ltb, le-ltb, ltb-true, ltb-false}
use Rattle.std.proofs.lemmas.Bool.{eqb-false}
use Rattle.rack.specs.declared.Range.{Range}
use Rattle.rack.specs.declared.Node.{Node}
use Rattle.rack.specs.definitions.Node.{is_bridge, spelt}
use Rattle.rack.specs.laws.Bools.{tested}
use Rattle.rack.specs.definitions.Tree.{Tree, bridges_below, devices_below, image_count}
use Rattle.rack.specs.laws.TreeLaws.{tree_same, bridges_same, devices_same}
use Rattle.rack.specs.definitions.Grow.{no_tree, nodes_with, new_depth, grown, tree_with}
use Rattle.rack.specs.laws.GrowLaws.{with_new, with_earlier, with_bridges, with_devices}

-- a node's place in its image
unfoldable pub place_of : (ℕ → Node) → ℕ → ℕ
place_of node i = cond (is_bridge (node i).kind) (bridges_below node i) (devices_below node i)

-- the depths of the first n nodes' buses: what is no earlier node has depth 0 as the root bus has
unfoldable pub bus_depth : (ℕ → Node) → ℕ → ℕ → ℕ
bus_depth node zero bus = 0
bus_depth node (suc n) bus = cond (eqb bus n) (bus_depth node n (node n).parent + 1) (bus_depth node n bus)

-- the greatest of the bridges among them
unfoldable pub deepest_of : (ℕ → Node) → ℕ → ℕ
deepest_of node zero = 0
deepest_of node (suc n) = max (deepest_of node n) (cond (is_bridge (node n).kind) (bus_depth node (n + 1) n) 0)

-- n nodes with what one pass finds of them
abbrev pub one_pass : Range → (ℕ → Node) → ℕ → Tree
one_pass h node n =
    record {
      count = n;
      host_memory = h;
      node = node;
      place = λ i. cond (ltb i n) (place_of node i) 0;
      depth_of = bus_depth node n;
      deepest = deepest_of node n;
    }

-- nodes that are the same to i: the place of i
pub place_same : (f g : ℕ → Node) (i : ℕ) → ((j : ℕ) → j ≤ i → f j ≡ g j) → place_of f i ≡ place_of g i
unfolding place_of
place_same f g i s =
    rw (s i (omega arith), bridges_same f g i (λ j h. s j (omega arith)), devices_same f g i (λ j h. s j (omega arith)))

-- a bus that is none of the first n nodes' has depth 0
pub depth_none : (node : ℕ → Node) (n bus : ℕ) → n ≤ bus → bus_depth node n bus ≡ 0
unfolding bus_depth
depth_none node zero bus h = refl
depth_none node (suc n) bus h = rw (ne_eqb bus n (λ e. omega arith)) (depth_none node n bus (omega arith))

-- nodes that are the same below n: the depths of their buses, and the greatest
pub depths_same : (f g : ℕ → Node) (n bus : ℕ) → ((i : ℕ) → i < n → f i ≡ g i) → bus_depth f n bus ≡ bus_depth g n bus
unfolding bus_depth
depths_same f g zero bus s = refl
depths_same f g (suc n) bus s =
    rw (s n (omega arith), depths_same f g n (g n).parent (λ i h. s i (omega arith)), depths_same f g n bus (λ i h. s i (omega arith)))

pub deepest_same : (f g : ℕ → Node) (n : ℕ) → ((i : ℕ) → i < n → f i ≡ g i) → deepest_of f n ≡ deepest_of g n
unfolding deepest_of
deepest_same f g zero s = refl
deepest_same f g (suc n) s =
    rw (s n (omega arith), depths_same f g (n + 1) n (λ i h. s i (omega arith)), deepest_same f g n (λ i h. s i (omega arith)))

-- one node more
pub depth_more : (node : ℕ → Node) (n bus : ℕ)
    → bus_depth node (n + 1) bus ≡ cond (eqb bus n) (bus_depth node n (node n).parent + 1) (bus_depth node n bus)
unfolding bus_depth
depth_more node n bus = rw (add-one n)

pub deepest_more : (node : ℕ → Node) (n : ℕ)
    → deepest_of node (n + 1) ≡ max (deepest_of node n) (cond (is_bridge (node n).kind) (bus_depth node n (node n).parent + 1) 0)
unfolding deepest_of bus_depth
deepest_more node n = rw (add-one n, add-one n, eq-eqb n n refl)

-- what one pass finds of a tree with one node more
module _ (h : Range) (node : ℕ → Node) (k : ℕ) (n : Node) where
  abbrev before : Tree
  before = one_pass h node k

  abbrev more : ℕ → Node
  more = nodes_with before n

  own : more k ≡ spelt n
  own = with_new before n k refl

  next : image_count before n.kind ≡ place_of more k
  unfolding place_of
  next = rw (own, with_bridges before n, with_devices before n)

  places : (i : ℕ) → cond (eqb i k) (image_count before n.kind) (cond (ltb i k) (place_of node i) 0) ≡ cond (ltb i (k + 1)) (place_of more i) 0
  places i =
      tested (eqb i k)
      (λ q. let e : i ≡ k = eqb-true i k q in let l : i < k + 1 = omega arith in rw (q, lt-ltb i (k + 1) l, e) next)
      (λ q.
      let ne = eqb-false i k q in
      tested (ltb i k)
      (λ l.
      let a : i < k = ltb-true i k l in
      rw (q, l, lt-ltb i (k + 1) (omega arith)) (sym (place_same more node i (λ j s. with_earlier before n j (omega arith)))))
      (λ l. rw (q, l, le-ltb i (k + 1) (omega (arith, ne, ltb-false i k l)))))

  -- the bus that the new node sits on, if it is that of an earlier node
  above : new_depth before n.parent ≡ bus_depth more k n.parent + 1
  above =
      rw (depths_same more node k n.parent (with_earlier before n))
      (tested (ltb n.parent k) (λ q. rw q)
      (λ q. rw (q, depth_none node k n.parent (ltb-false n.parent k q))))

  depths : (i : ℕ) → cond (eqb i k) (new_depth before n.parent) (bus_depth node k i) ≡ bus_depth more (k + 1) i
  depths i = rw (above, depth_more more k i, own, depths_same more node k i (with_earlier before n))

  pub grown_with : grown before n ≡ one_pass h more (k + 1)
  unfolding grown
  grown_with =
      tree_same refl refl (λ i. refl) places depths
      (rw (above, deepest_more more k, own, deepest_same more node k (with_earlier before n)))

-- a tree stores what one pass finds
abbrev pub StoredBy : Tree → Type 0
StoredBy t = t ≡ one_pass t.host_memory t.node t.count

pub none_stored : (h : Range) → StoredBy (no_tree h)
unfolding bus_depth deepest_of
none_stored h = tree_same refl refl (λ i. refl) (λ i. rw (le-ltb i 0 (omega arith))) (λ i. refl) refl

pub grown_stored : (t : Tree) (n : Node) → StoredBy t → StoredBy (grown t n)
unfolding grown
grown_stored t n by = ap (λ (u : Tree). grown u n) by ∙ grown_with t.host_memory t.node t.count n

pub with_stored : (h : Range) (node : ℕ → Node) (n : ℕ) → StoredBy (tree_with h node n)
unfolding tree_with
with_stored h node zero = none_stored h
with_stored h node (suc n) = grown_stored (tree_with h node n) (node n) (with_stored h node n)
