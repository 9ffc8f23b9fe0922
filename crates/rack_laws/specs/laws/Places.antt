-- The places of the nodes of a rack in their images: each node has one of its own.
use Rattle.std.specs.Prelude.{◌≡◌, refl, Bool, true, false, not, ℕ, ◌<◌, ltb}
use Rattle.std.proofs.Common.{sym, ap, ◌∙◌, arith, ltb-true, ltb-false}
use Rattle.rack.specs.declared.Node.{Node}
use Rattle.rack.specs.definitions.Node.{is_bridge}
use Rattle.rack.specs.definitions.Count.{count_of}
use Rattle.rack.specs.laws.Bools.{tested}
use Rattle.rack.specs.definitions.Tree.{Tree, image_count}
use Rattle.rack_laws.specs.laws.OnePass.{place_of}
use Rattle.rack_laws.specs.laws.Counts.{count_lt}

-- whether a node stands in the image of the bridges, or of the devices
abbrev of : (ℕ → Node) → Bool → ℕ → Bool
of node true i = is_bridge (node i).kind
of node false i = not (is_bridge (node i).kind)

of_own : (node : ℕ → Node) (i : ℕ) (b : Bool) → is_bridge (node i).kind ≡ b → of node b i ≡ true
of_own node i true e = e
of_own node i false e = ap not e

place_count : (node : ℕ → Node) (i : ℕ) (b : Bool) → is_bridge (node i).kind ≡ b → place_of node i ≡ count_of (of node b) i
unfolding place_of
place_count node i true e = rw e
place_count node i false e = rw e

image_count_lem : (t : Tree) (i : ℕ) (b : Bool) → is_bridge (t.node i).kind ≡ b → image_count t (t.node i).kind ≡ count_of (of t.node b) t.count
image_count_lem t i true e = rw e
image_count_lem t i false e = rw e

module _ (t : Tree) (by : (i : ℕ) → i < t.count → t.place i ≡ place_of t.node i) where
  place_is : (i : ℕ) (b : Bool) → i < t.count → is_bridge (t.node i).kind ≡ b → t.place i ≡ count_of (of t.node b) i
  place_is i b h e = by i h ∙ place_count t.node i b e

  pub below : (i : ℕ) → i < t.count → t.place i < image_count t (t.node i).kind
  below i h =
      let b = is_bridge (t.node i).kind in
      rw (place_is i b h refl, image_count_lem t i b refl) (count_lt (of t.node b) i t.count h (of_own t.node i b refl))

  earlier : (i j : ℕ) → i < j → i < t.count → j < t.count → is_bridge (t.node i).kind ≡ is_bridge (t.node j).kind
      → t.place i ≡ t.place j → ⊥
  earlier i j l hi hj k e =
      let b = is_bridge (t.node i).kind in
      omega (arith, e, place_is i b hi refl, place_is j b hj (sym k), count_lt (of t.node b) i j l (of_own t.node i b refl))

  pub apart : (i j : ℕ) → i < t.count → j < t.count → is_bridge (t.node i).kind ≡ is_bridge (t.node j).kind
      → t.place i ≡ t.place j → i ≡ j
  apart i j hi hj k e =
      tested (ltb i j) (λ l. absurd (earlier i j (ltb-true i j l) hi hj k e))
      (λ l.
      tested (ltb j i) (λ r. absurd (earlier j i (ltb-true j i r) hj hi (sym k) (sym e)))
      (λ r. omega (arith, ltb-false i j l, ltb-false j i r)))
