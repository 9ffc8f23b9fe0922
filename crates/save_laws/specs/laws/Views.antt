-- Images of the right lengths are the same where every node's registers are: each place of an image is that of a node.
use Rattle.std.specs.Prelude.{◌≡◌, Bool, true, false, not, List, ℕ, zero, suc, ◌+◌, ◌*◌, ◌/◌, ◌%◌, ◌<◌, ltb, length, get_or}
use Rattle.std.proofs.Common.{sym, ap, ◌∙◌, arith, ext_get_or, lt-ltb, ltb-true, ltb-false}
use Rattle.rack.specs.declared.Kind.TheVariants.{Bridge, Device}
use Rattle.rack.specs.definitions.Node.{is_bridge}
use Rattle.rack.specs.definitions.Count.{count_of}
use Rattle.rack.specs.definitions.Tree.{Tree}
use Rattle.rack.specs.laws.Bools.{tested, opposite}
use Rattle.rack_laws.specs.laws.OnePass.{place_of, StoredBy}
use Rattle.register_image.specs.definitions.Image.{Images, images, node_part, view}
use Rattle.register_image.specs.definitions.Fixed.{lengths_wrong}
use Rattle.register_laws.specs.laws.Images.{lengths_right}
use Rattle.register_laws.specs.laws.Parts.{part_at}

-- a number that counts below n is counted at a number that passes
counted_at : (f : ℕ → Bool) (n p : ℕ) → p < count_of f n → (i : ℕ) × (i < n) × (f i ≡ true) × (count_of f i ≡ p)
unfolding count_of
counted_at f zero p l = absurd (omega arith)
counted_at f (suc n) p l =
    tested (ltb p (count_of f n))
    (λ q. let s = counted_at f n p (ltb-true p (count_of f n) q) in (s.0, omega (arith, s.1), s.2, s.3))
    (λ q.
    let m = ltb-false p (count_of f n) q in
    tested (f n) (λ w. let k : p < count_of f n + 1 = rw w at l in (n, omega arith, w, omega (arith, k, m)))
    (λ w. let k : p < count_of f n + 0 = rw w at l in absurd (omega (arith, k, m))))

-- lists of 64 bytes for each of n parts are the same where the parts are
parts_same : (n : ℕ) (l m : List ℕ) → length l ≡ 64 * n → length m ≡ 64 * n → ((p : ℕ) → p < n → node_part l p ≡ node_part m p)
    → l ≡ m
parts_same n l m a c s =
    ext_get_or 0 l m (a ∙ sym c)
    (λ k h.
    let e : 64 * (k / 64) + k % 64 ≡ k = omega arith in
    let i : k / 64 < n = omega arith in
    let r : k % 64 < 64 = omega arith in
    ap (λ (j : ℕ). get_or l j 0) (sym e) ∙ sym (part_at l (k / 64) (omega arith) (k % 64) r)
    ∙ ap (λ (x : List ℕ). get_or x (k % 64) 0) (s (k / 64) i)
    ∙ part_at m (k / 64) (omega arith) (k % 64) r ∙ ap (λ (j : ℕ). get_or m j 0) e)

module _ (t : Tree) (by : StoredBy t) where
  place_is : (i : ℕ) → i < t.count → t.place i ≡ place_of t.node i
  place_is i h = ap (λ (u : Tree). u.place i) by ∙ rw (lt-ltb i t.count h)

  -- the part of a bridge, and of a device
  bridge_view : (im : Images) (i : ℕ) → i < t.count → is_bridge (t.node i).kind ≡ true
      → view t im i ≡ node_part im.bridges (count_of (λ j. is_bridge (t.node j).kind) i)
  unfolding view place_of
  bridge_view im i h k = rw (lt-ltb i t.count h, place_is i h, k)

  device_view : (im : Images) (i : ℕ) → i < t.count → not (is_bridge (t.node i).kind) ≡ true
      → view t im i ≡ node_part im.devices (count_of (λ j. not (is_bridge (t.node j).kind)) i)
  unfolding view place_of
  device_view im i h k = rw (lt-ltb i t.count h, place_is i h, opposite (is_bridge (t.node i).kind) k)

  -- an image holds one part for each node that passes a test, in node order
  module _ (held : ℕ → Bool) (image : Images → List ℕ)
      (part : (im : Images) (i : ℕ) → i < t.count → held i ≡ true → view t im i ≡ node_part (image im) (count_of held i)) where
    image_same : (a c : Images) → length (image a) ≡ 64 * count_of held t.count → length (image c) ≡ 64 * count_of held t.count
        → ((i : ℕ) → i < t.count → view t a i ≡ view t c i) → image a ≡ image c
    image_same a c la lc s =
        parts_same (count_of held t.count) (image a) (image c) la lc
        (λ p l.
        let x = counted_at held t.count p l in
        ap (node_part (image a)) (sym x.3) ∙ sym (part a x.0 x.1 x.2) ∙ s x.0 x.1
        ∙ part c x.0 x.1 x.2 ∙ ap (node_part (image c)) x.3)

  pub images_same : (a c : Images) → lengths_wrong t a ≡ false → lengths_wrong t c ≡ false
      → ((i : ℕ) → i < t.count → view t a i ≡ view t c i) → a ≡ c
  images_same a c la lc s =
      let b : a.bridges ≡ c.bridges =
      image_same (λ j. is_bridge (t.node j).kind) (λ im. im.bridges) bridge_view a c
      (lengths_right t a la Bridge) (lengths_right t c lc Bridge) s in
      let d : a.devices ≡ c.devices =
      image_same (λ j. not (is_bridge (t.node j).kind)) (λ im. im.devices) device_view a c
      (lengths_right t a la Device) (lengths_right t c lc Device) s in
      ap (λ (l : List ℕ). images l a.devices) b ∙ ap (λ (l : List ℕ). images c.bridges l) d
