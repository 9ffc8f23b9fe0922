-- The images with some nodes at reset: each node's part is at reset or as it was, and they are sound.
use Rattle.std.specs.Prelude.{◌≡◌, List, Bool, true, false, cond, ltb, eqb, length, get_or}
use Rattle.std.proofs.Math.Path.{refl, ap}
use Rattle.std.proofs.Common.{sym, ◌∙◌, arith, ext_get_or}
use Prim.Native.Nat.{ℕ, zero, suc, ◌+◌, ◌≤◌, ◌<◌}
use Rattle.std.specs.Int.Bits.{bit_and}
use borrow.Author.Tests.{eqb-true, eqb-false, eq-eqb, not-false}
use Rattle.rack.specs.declared.Kind.{Kind}
use Rattle.rack.specs.declared.Kind.TheVariants.{Bridge, OlderBridge, Device}
use Rattle.rack.specs.declared.Node.{Node}
use Rattle.rack.specs.definitions.Tree.{Tree}
use Rattle.rack.specs.definitions.Stored.{Stored}
use Rattle.register_header.specs.definitions.Mask.{in_region, fixed_mask, reset_byte}
use Rattle.register_header.specs.definitions.Tables.{bridge_reset, older_bridge_reset, device_reset, reset_table}
use Rattle.register_image.specs.definitions.Image.{Images, image_of, view}
use Rattle.register_image.specs.definitions.Fixed.{lengths_wrong}
use Rattle.register_image.specs.definitions.Reset.{reset_part, byte_changed, is_changed, reset_node, reset_nodes, reset_images}
use Rattle.rack.specs.laws.Bools.{tested}
use Rattle.rack.specs.laws.Search.{none, none_all}
use Rattle.register_laws.specs.laws.Images.{lengths_right, on_right, view_same, view_other}
use Rattle.register_laws.specs.laws.Registers.{reset_length, reset_at}
use Rattle.register_laws.specs.laws.Accepted.{right_byte, Sound}

-- a byte past the IDs, in no region of the node, is 0 at reset where all three tables have 0 there
pub zero_reset : (n : Node) (at : ℕ) → ltb at 4 ≡ false → in_region n at ≡ false → get_or bridge_reset at 0 ≡ 0 → get_or older_bridge_reset at 0 ≡ 0
    → get_or device_reset at 0 ≡ 0 → reset_byte n at ≡ 0
unfolding reset_byte
zero_reset n at past out bridge older device = rw (past, out) (zero n.kind)
  where
    zero : (k : Kind) → get_or (reset_table k) at 0 ≡ 0
    zero Bridge = bridge
    zero OlderBridge = older
    zero Device = device

-- registers that do not differ from reset: each byte is at reset
pub unchanged_at : (n : Node) (part : List ℕ) → is_changed n part ≡ false → (at : ℕ) → at < 64 → get_or part at 0 ≡ reset_byte n at
unfolding byte_changed
unchanged_at n part q at h = eqb-true (get_or part at 0) (reset_byte n at) (not-false _ (none (byte_changed n part) 64 q at h))

-- so they are those of reset
pub unchanged : (n : Node) (part : List ℕ) → length part ≡ 64 → is_changed n part ≡ false → part ≡ reset_part n
unchanged n part long q =
    ext_get_or 0 part (reset_part n) (long ∙ sym (reset_length n))
    (λ at h. let l : at < 64 = omega arith in unchanged_at n part q at l ∙ sym (reset_at n at l))

-- those of reset do not
pub reset_unchanged : (n : Node) → is_changed n (reset_part n) ≡ false
unfolding byte_changed
reset_unchanged n = none_all (byte_changed n (reset_part n)) 64 (λ at h. rw (eq-eqb _ _ (reset_at n at h)))

module _ (t : Tree) (test : ℕ → Bool) (pl : Stored t) where
  at_reset : ℕ → List ℕ → List ℕ
  at_reset i part = reset_part (t.node i)

  -- one node, if it passes
  one : Images → ℕ → Images
  one im i = cond (test i) (reset_node t im i) im

  one_right : (im : Images) (i : ℕ) → lengths_wrong t im ≡ false → lengths_wrong t (one im i) ≡ false
  unfolding one at_reset
  one_right im i r =
      tested (test i) (λ q. rw q (on_right t im i (at_reset i) (λ h. reset_length (t.node i)) r)) (λ q. rw q r)

  one_other : (im : Images) (i : ℕ) → lengths_wrong t im ≡ false → (j : ℕ) → (j ≡ i → ⊥) → view t (one im i) j ≡ view t im j
  unfolding one at_reset
  one_other im i r j ne =
      tested (test i) (λ q. rw q (view_other t im i (at_reset i) (λ h. reset_length (t.node i)) pl r j ne)) (λ q. rw q)

  one_view : (im : Images) (i : ℕ) → lengths_wrong t im ≡ false → i < t.count
      → view t (one im i) i ≡ cond (test i) (reset_part (t.node i)) (view t im i)
  unfolding one at_reset
  one_view im i r h =
      tested (test i) (λ q. rw q (view_same t im i (at_reset i) (λ h. reset_length (t.node i)) pl r h)) (λ q. rw q)

  from_right : (im : Images) (i left : ℕ) → lengths_wrong t im ≡ false → lengths_wrong t (reset_nodes t test im i left) ≡ false
  unfolding reset_nodes one
  from_right im i zero r = r
  from_right im i (suc left) r = from_right (one im i) (i + 1) left (one_right im i r)

  -- a node before those that are reset keeps its view
  from_before : (im : Images) (i left : ℕ) → lengths_wrong t im ≡ false → (j : ℕ) → j < i
      → view t (reset_nodes t test im i left) j ≡ view t im j
  unfolding reset_nodes one
  from_before im i zero r j h = refl
  from_before im i (suc left) r j h =
      from_before (one im i) (i + 1) left (one_right im i r) j (omega arith) ∙ one_other im i r j (omega arith)

  from_view : (im : Images) (i left : ℕ) → lengths_wrong t im ≡ false → (j : ℕ) → j < t.count → i ≤ j → j < i + left
      → view t (reset_nodes t test im i left) j ≡ cond (test j) (reset_part (t.node j)) (view t im j)
  unfolding reset_nodes one
  from_view im i zero r j hj a b = absurd (omega arith)
  from_view im i (suc left) r j hj a b =
      tested (eqb j i)
      (λ q.
      let ji : j ≡ i = eqb-true j i q in
      from_before (one im i) (i + 1) left (one_right im i r) j (omega arith) ∙ rw ji (one_view im i r (omega arith)))
      (λ q.
      from_view (one im i) (i + 1) left (one_right im i r) j hj (omega (arith, eqb-false j i q)) (omega arith)
      ∙ ap (cond (test j) (reset_part (t.node j))) (one_other im i r j (eqb-false j i q)))

  module _ (im : Images) (right : lengths_wrong t im ≡ false) where
    -- a reset of the nodes that pass keeps lengths that are right
    pub some_right : lengths_wrong t (reset_nodes t test im 0 t.count) ≡ false
    some_right = from_right im 0 t.count right

    -- and both lengths
    pub some_lengths : (k : Kind) → length (image_of (reset_nodes t test im 0 t.count) k) ≡ length (image_of im k)
    some_lengths k = lengths_right t (reset_nodes t test im 0 t.count) some_right k ∙ sym (lengths_right t im right k)

    -- the parts of these nodes are at reset, those of the others stay
    pub some_view : (i : ℕ) → i < t.count
        → view t (reset_nodes t test im 0 t.count) i ≡ cond (test i) (reset_part (t.node i)) (view t im i)
    some_view i h = from_view im 0 t.count right i h (omega arith) (omega arith)

  -- a node at reset has no wrong fixed bit
  pub some_sound : (im : Images) → Sound t im → Sound t (reset_nodes t test im 0 t.count)
  some_sound im s =
      record {
        lengths = some_right im s.lengths;
        bytes = λ i hi at ha.
            tested (test i)
            (λ q.
            rw (some_view im s.lengths i hi, q)
            (right_byte (t.node i) (reset_part (t.node i)) at
            (ap (λ (x : ℕ). bit_and x (fixed_mask (t.node i) at)) (reset_at (t.node i) at ha))))
            (λ q. rw (some_view im s.lengths i hi, q) (s.bytes i hi at ha));
      }

module _ (t : Tree) (pl : Stored t) (im : Images) (right : lengths_wrong t im ≡ false) where
  -- a reset keeps lengths that are right
  pub reset_right : lengths_wrong t (reset_images t im) ≡ false
  reset_right = some_right t (λ i. true) pl im right

  -- each node's part is at reset
  pub reset_view : (i : ℕ) → i < t.count → view t (reset_images t im) i ≡ reset_part (t.node i)
  reset_view i h = some_view t (λ i. true) pl im right i h
