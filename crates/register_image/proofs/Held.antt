-- The image that holds a node is found by the node's kind: what holds after the code has looked the node up.
use mathlib.Core.Path.{◌≡◌}
use mathlib.Core.Bool.{Bool, true, false}
use mathlib.Core.List.{List, []}
use Rattle.std.specs.Prelude.{Option, None}
use Prim.Native.Nat.{ℕ, ◌<◌, ◌≤◌}
use borrow.Author.Tests.{lt-ltb, le-ltb}
use Rattle.rack.specs.declared.Node.{Node}
use Rattle.rack.specs.definitions.Node.{is_bridge}
use Rattle.rack.specs.definitions.Tree.{Tree}
use Rattle.register_image.specs.definitions.Image.{images, node_part, in_part, on_part, view, in_node, on_node}

module _ (t : Tree) (b d : List ℕ) (i : ℕ) {count : ℕ} (at : count ≡ t.count) where
  -- a missing node
  pub view_none : count ≤ i → [] ≡ view t (images b d) i
  unfolding view
  view_none h = rw (le-ltb i t.count (rw at at h))

  pub on_none : (f : List ℕ → List ℕ) → count ≤ i → images b d ≡ on_node t (images b d) i f
  unfolding on_node
  on_none f h = rw (le-ltb i t.count (rw at at h))

  pub in_none : {A : Type 0} (f : List ℕ → A) → count ≤ i → None ≡ in_node t (images b d) i f
  unfolding in_node
  in_none f h = rw (le-ltb i t.count (rw at at h))

  -- a node n at place p, and whether its kind was found to be a bridge
  module _ {n : Node} {p : ℕ} {bridge : Bool}
      (here : i < count) (en : n ≡ t.node i) (ep : p ≡ t.place i) (eb : bridge ≡ is_bridge n.kind) where
    pub view_bridge : {l : List ℕ} → bridge ≡ true → l ≡ node_part b p → l ≡ view t (images b d) i
    unfolding view
    view_bridge e el = simp (lt-ltb i t.count (rw at at here), ← en, ← ep, ← eb, e, el)

    pub view_device : {l : List ℕ} → bridge ≡ false → l ≡ node_part d p → l ≡ view t (images b d) i
    unfolding view
    view_device e el = simp (lt-ltb i t.count (rw at at here), ← en, ← ep, ← eb, e, el)

    module _ (f : Node → List ℕ → List ℕ) {l : List ℕ} where
      pub on_bridge : bridge ≡ true → l ≡ on_part b p (f n) → images l d ≡ on_node t (images b d) i (f (t.node i))
      unfolding on_node
      on_bridge e el = simp (lt-ltb i t.count (rw at at here), ← en, ← ep, ← eb, e, el)

      pub on_device : bridge ≡ false → l ≡ on_part d p (f n) → images b l ≡ on_node t (images b d) i (f (t.node i))
      unfolding on_node
      on_device e el = simp (lt-ltb i t.count (rw at at here), ← en, ← ep, ← eb, e, el)

    module _ {A : Type 0} (f : Node → List ℕ → A) {o : Option A} where
      pub in_bridge : bridge ≡ true → o ≡ in_part b p (f n) → o ≡ in_node t (images b d) i (f (t.node i))
      unfolding in_node
      in_bridge e el = simp (lt-ltb i t.count (rw at at here), ← en, ← ep, ← eb, e, el)

      pub in_device : bridge ≡ false → o ≡ in_part d p (f n) → o ≡ in_node t (images b d) i (f (t.node i))
      unfolding in_node
      in_device e el = simp (lt-ltb i t.count (rw at at here), ← en, ← ep, ← eb, e, el)
