-- One node's part changed in the two images: their lengths, that node's view, and the views of the others.
use Rattle.std.specs.Prelude.{◌≡◌, ◌≢◌, Bool, ◌&&◌, cond, List, [], ℕ, ◌*◌, ◌/◌, ◌≤◌, ◌<◌, ltb, eqb, length}
use Rattle.std.proofs.Math.Path.{refl, sym}
use Rattle.std.proofs.Common.{◌∙◌, arith}
use Rattle.std.proofs.Math.Bool.{true, false}
use Rattle.std.proofs.lemmas.Bool.{false≢true}
use borrow.Author.Tests.{lt-ltb, le-ltb, ltb-true, ltb-false, eqb-true, eq-eqb, not-false}
use Rattle.rack.specs.declared.Kind.{Kind}
use Rattle.rack.specs.declared.Kind.TheVariants.{Bridge, Device}
use Rattle.rack.specs.definitions.Node.{is_bridge}
use Rattle.rack.specs.definitions.Tree.{Tree, bridge_count, device_count, image_count}
use Rattle.rack.specs.definitions.Stored.{Stored}
use Rattle.register_image.specs.definitions.Image.{Images, images, image_of, with_image, node_part, on_part, view, on_node}
use Rattle.register_image.specs.definitions.Fixed.{lengths_wrong}
use Rattle.rack.specs.laws.Bools.{tested}
use Rattle.register_laws.specs.laws.Parts.{part_length, on_length, on_same, on_other}

and_left : (a b : Bool) → a && b ≡ true → a ≡ true
and_left true b e = refl
and_left false b e = absurd (false≢true e)

and_right : (a b : Bool) → a && b ≡ true → b ≡ true
and_right true b e = e
and_right false b e = absurd (false≢true e)

-- lengths that are right: each image has 64 bytes for each of its nodes
pub lengths_right : (t : Tree) (im : Images) → lengths_wrong t im ≡ false
    → (k : Kind) → length (image_of im k) ≡ 64 * image_count t k
unfolding lengths_wrong
lengths_right t im e k = right (is_bridge k)
  where
    right : (bridge : Bool) → length (cond bridge im.bridges im.devices) ≡ 64 * cond bridge (bridge_count t) (device_count t)
    right true = eqb-true _ _ (and_left _ _ (not-false _ e))
    right false = eqb-true _ _ (and_right (eqb (length im.bridges) (64 * bridge_count t)) _ (not-false _ e))

-- and the converse
pub right_lengths : (t : Tree) (im : Images) → ((k : Kind) → length (image_of im k) ≡ 64 * image_count t k)
    → lengths_wrong t im ≡ false
unfolding lengths_wrong
right_lengths t im h = rw (eq-eqb _ _ (h Bridge), eq-eqb _ _ (h Device))

-- the part of a missing node is empty
pub view_missing : (t : Tree) (im : Images) (i : ℕ) → t.count ≤ i → view t im i ≡ []
unfolding view
view_missing t im i h = rw (le-ltb i t.count h)

-- and a change of it changes nothing
pub on_missing : (t : Tree) (im : Images) (i : ℕ) (f : List ℕ → List ℕ) → t.count ≤ i → on_node t im i f ≡ im
unfolding on_node
on_missing t im i f h = rw (le-ltb i t.count h)

view_is : (t : Tree) (im : Images) (i : ℕ) → i < t.count
    → view t im i ≡ node_part (image_of im (t.node i).kind) (t.place i)
unfolding view
view_is t im i h = rw (lt-ltb i t.count h)

on_is : (t : Tree) (im : Images) (i : ℕ) (f : List ℕ → List ℕ) → i < t.count
    → on_node t im i f ≡ with_image im (t.node i).kind (on_part (image_of im (t.node i).kind) (t.place i) f)
unfolding on_node
on_is t im i f h = rw (lt-ltb i t.count h)

-- the image of bridges, or of devices
abbrev half : Images → Bool → List ℕ
half im bridge = cond bridge im.bridges im.devices

-- the same over an image and a place in it
module _ (im : Images) (p : ℕ) (f : List ℕ → List ℕ) where
  Keeps : Bool → Type 0
  Keeps b = p < length (half im b) / 64 → length (f (node_part (half im b) p)) ≡ 64

  changed : Bool → Images
  changed b = cond b (images (on_part (half im b) p f) im.devices) (images im.bridges (on_part (half im b) p f))

  changed_length : (b c : Bool) → Keeps b → length (half (changed b) c) ≡ length (half im c)
  unfolding Keeps changed
  changed_length true true h = on_length im.bridges p f h
  changed_length true false h = refl
  changed_length false true h = refl
  changed_length false false h = on_length im.devices p f h

  changed_same : (b : Bool) → Keeps b → p < length (half im b) / 64 → node_part (half (changed b) b) p ≡ f (node_part (half im b) p)
  unfolding Keeps changed
  changed_same true h q = on_same im.bridges p f h q
  changed_same false h q = on_same im.devices p f h q

  changed_other : (b c : Bool) (q : ℕ) → Keeps b → (b ≡ c → q ≢ p) → node_part (half (changed b) c) q ≡ node_part (half im c) q
  unfolding Keeps changed
  changed_other true true q h ne = on_other im.bridges p f h q (ne refl)
  changed_other true false q h ne = refl
  changed_other false true q h ne = refl
  changed_other false false q h ne = on_other im.devices p f h q (ne refl)

module _ (t : Tree) (im : Images) (pl : Stored t) (right : lengths_wrong t im ≡ false) where
  -- a node's place is in its image
  pub fits : (i : ℕ) → i < t.count → t.place i < length (image_of im (t.node i).kind) / 64
  fits i h = omega (arith, pl.below i h, lengths_right t im right (t.node i).kind)

  -- a node's part has 64 bytes
  pub view_length : (i : ℕ) → i < t.count → length (view t im i) ≡ 64
  view_length i h = rw (view_is t im i h) (part_length _ _ (fits i h))

module _ (t : Tree) (im : Images) (i : ℕ) (f : List ℕ → List ℕ) (hf : i < t.count → length (f (view t im i)) ≡ 64) where
  keeps : i < t.count → Keeps im (t.place i) f (is_bridge (t.node i).kind)
  unfolding Keeps
  keeps h q = rw (view_is t im i h) at (hf h)

  -- a change of a node's part keeps both lengths
  pub on_lengths : (k : Kind) → length (image_of (on_node t im i f) k) ≡ length (image_of im k)
  unfolding changed
  on_lengths k =
      tested (ltb i t.count)
      (λ q.
      let h : i < t.count = ltb-true i _ q in
      rw (on_is t im i f h) (changed_length im (t.place i) f (is_bridge (t.node i).kind) (is_bridge k) (keeps h)))
      (λ q. rw (on_missing t im i f (ltb-false i _ q)))

  -- so lengths that are right stay right
  pub on_right : lengths_wrong t im ≡ false → lengths_wrong t (on_node t im i f) ≡ false
  on_right r = right_lengths t (on_node t im i f) (λ k. on_lengths k ∙ lengths_right t im r k)

  module _ (pl : Stored t) (right : lengths_wrong t im ≡ false) where
    -- the node's view is changed
    pub view_same : i < t.count → view t (on_node t im i f) i ≡ f (view t im i)
    unfolding changed
    view_same h =
        view_is t (on_node t im i f) i h
        ∙ rw (on_is t im i f h, view_is t im i h)
        (changed_same im (t.place i) f (is_bridge (t.node i).kind) (keeps h) (fits t im pl right i h))

    -- the views of the others stay
    pub view_other : (j : ℕ) → j ≢ i → view t (on_node t im i f) j ≡ view t im j
    unfolding changed
    view_other j ne =
        tested (ltb i t.count)
        (λ q.
        let hi : i < t.count = ltb-true i _ q in
        tested (ltb j t.count)
        (λ r.
        let hj : j < t.count = ltb-true j _ r in
        view_is t (on_node t im i f) j hj
        ∙ rw (on_is t im i f hi, view_is t im j hj)
        (changed_other im (t.place i) f (is_bridge (t.node i).kind) (is_bridge (t.node j).kind) (t.place j) (keeps hi)
        (λ same e. ne (sym (pl.apart i j hi hj same (sym e))))))
        (λ r. view_missing t (on_node t im i f) j (ltb-false j _ r) ∙ sym (view_missing t im j (ltb-false j _ r))))
        (λ q. rw (on_missing t im i f (ltb-false i _ q)))
