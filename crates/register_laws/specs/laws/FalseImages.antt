-- Refusals 11, 12 and 18 of two images say what is false in them, and the images are accepted exactly where nothing is.
use Rattle.std.specs.Prelude.{◌≡◌, true, false, ℕ, ◌*◌, eqb, length}
use Rattle.std.proofs.Common.{sym, ap, ◌∙◌, true≢false}
use Rattle.std.proofs.Math.Bool.{not, false≢true, and-false}
use Rattle.std.proofs.Math.Logic.{inl, inr, ⊎_elim}
use borrow.Author.Tests.{eqb-false, eq-eqb, ne_eqb}
use Rattle.rack.specs.definitions.Tree.{Tree, bridge_count, device_count, parent_of}
use Rattle.rack.specs.laws.Bools.{tested, not_fails, both, opposite}
use Rattle.rack.specs.laws.Search.{found, found_at}
use Rattle.register_image.specs.definitions.Image.{Images, view}
use Rattle.register_image.specs.definitions.Fixed.{lengths_wrong, byte_wrong, fixed_wrong}
use Rattle.register_image.specs.definitions.Reset.{byte_changed, is_changed}
use Rattle.bus_reset.specs.definitions.Held.{resets, is_held}
use Rattle.bus_reset.specs.definitions.Agreement.{node_disagrees, disagrees, image_refusal}
use Rattle.register_laws.specs.definitions.FalseImages.{WrongLength, FixedDiffers, HeldDiffers, FixedRight, HeldRight}
use Rattle.register_laws.specs.laws.Accepted as numbers
use Rattle.register_laws.specs.laws.Accepted.{right_byte, byte_right, fixed_wrong_lem, wrong_fixed}
use Rattle.register_laws.specs.laws.Above.{above_found, found_above}

module _ (t : Tree) (im : Images) where
  -- a length
  pub length_differs : lengths_wrong t im ≡ true → WrongLength t im
  unfolding lengths_wrong
  length_differs e =
      tested (eqb (length im.bridges) (64 * bridge_count t))
      (λ b. inr (λ d. false≢true (rw (b, eq-eqb _ _ d) at e)))
      (λ b. inl (eqb-false _ _ b))

  pub differs_length : WrongLength t im → lengths_wrong t im ≡ true
  unfolding lengths_wrong
  differs_length =
      ⊎_elim (λ b. rw (ne_eqb (length im.bridges) (64 * bridge_count t) b))
      (λ d. rw (ne_eqb (length im.devices) (64 * device_count t) d, and-false (eqb (length im.bridges) (64 * bridge_count t))))

  -- a fixed bit
  pub fixed_differs : fixed_wrong t im ≡ true → (i : ℕ) × (at : ℕ) × FixedDiffers t im i at
  fixed_differs e =
      let f = fixed_wrong_lem t im e in (
        f.0,
        f.2,
        record {
          node = f.1;
          byte = f.3;
          differs = λ q. false≢true (sym (right_byte (t.node f.0) (view t im f.0) f.2 q) ∙ f.4);
        },
      )

  pub differs_fixed : (i at : ℕ) → FixedDiffers t im i at → fixed_wrong t im ≡ true
  differs_fixed i at f =
      wrong_fixed t im i at f.node f.byte
      (not_fails (byte_wrong (t.node i) (view t im i) at) (λ q. f.differs (byte_right (t.node i) (view t im i) at q)))

  -- a node that is held
  pub held_differs : disagrees t im ≡ true → (g : ℕ) × (i : ℕ) × (at : ℕ) × HeldDiffers t im g i at
  unfolding byte_changed
  held_differs e =
      let s = found (node_disagrees t im) t.count e in
      let i = s.0 in
      let h = both (is_held t im i) (is_changed (t.node i) (view t im i)) s.2 in
      let a = above_found t (resets t im) (parent_of t i) h.0 in
      let c = found (byte_changed (t.node i) (view t im i)) 64 h.1 in (
        a.0,
        i,
        c.0,
        record { set = a.1; below = a.2; node = s.1; byte = c.1; differs = eqb-false _ _ (opposite _ c.2) },
      )

  pub differs_held : (g i at : ℕ) → HeldDiffers t im g i at → disagrees t im ≡ true
  unfolding byte_changed
  differs_held g i at d =
      found_at (node_disagrees t im) t.count i d.node
      (rw (found_above t (resets t im) g (parent_of t i) d.set d.below)
      (found_at (byte_changed (t.node i) (view t im i)) 64 at d.byte (ap not (ne_eqb _ _ d.differs))))

  -- a test that does not hold where what it finds is not there, and the converse
  no_length : (WrongLength t im → ⊥) → lengths_wrong t im ≡ false
  no_length n = tested (lengths_wrong t im) (λ q. absurd (n (length_differs q))) (λ q. q)

  length_right : lengths_wrong t im ≡ false → WrongLength t im → ⊥
  length_right e w = true≢false (sym (differs_length w) ∙ e)

  no_fixed : FixedRight t im → fixed_wrong t im ≡ false
  no_fixed n = tested (fixed_wrong t im) (λ q. let f = fixed_differs q in absurd (n f.0 f.1 f.2)) (λ q. q)

  fixed_right : fixed_wrong t im ≡ false → FixedRight t im
  fixed_right e i at f = true≢false (sym (differs_fixed i at f) ∙ e)

  no_held : HeldRight t im → disagrees t im ≡ false
  no_held n = tested (disagrees t im) (λ q. let d = held_differs q in absurd (n d.0 d.1 d.2 d.3)) (λ q. q)

  held_right : disagrees t im ≡ false → HeldRight t im
  held_right e g i at d = true≢false (sym (differs_held g i at d) ∙ e)

  -- 11
  pub refused_11 : image_refusal t im ≡ 11 → WrongLength t im
  refused_11 e = length_differs (numbers.refused_11 t im e)

  pub refuses_11 : WrongLength t im → image_refusal t im ≡ 11
  refuses_11 w = numbers.refuses_11 t im (differs_length w)

  -- 12, where there is no 11
  pub refused_12 : image_refusal t im ≡ 12 → (WrongLength t im → ⊥) × (i : ℕ) × (at : ℕ) × FixedDiffers t im i at
  refused_12 e =
      let n = numbers.refused_12 t im e in
      let f = fixed_differs n.1 in
      (length_right n.0, f.0, f.1, f.2)

  pub refuses_12 : (WrongLength t im → ⊥) → (i at : ℕ) → FixedDiffers t im i at → image_refusal t im ≡ 12
  refuses_12 l i at f = numbers.refuses_12 t im (no_length l) (differs_fixed i at f)

  -- 18, where there is neither
  pub refused_18 : image_refusal t im ≡ 18
      → (WrongLength t im → ⊥) × FixedRight t im × (g : ℕ) × (i : ℕ) × (at : ℕ) × HeldDiffers t im g i at
  refused_18 e =
      let n = numbers.refused_18 t im e in
      let d = held_differs n.2 in
      (length_right n.0, fixed_right n.1, d.0, d.1, d.2, d.3)

  pub refuses_18 : (WrongLength t im → ⊥) → FixedRight t im → (g i at : ℕ) → HeldDiffers t im g i at → image_refusal t im ≡ 18
  refuses_18 l f g i at d = numbers.refuses_18 t im (no_length l) (no_fixed f) (differs_held g i at d)

  -- none
  pub accepted : image_refusal t im ≡ 0 → (WrongLength t im → ⊥) × FixedRight t im × HeldRight t im
  accepted e =
      let a = numbers.accepted t im e in
      (length_right a.0, fixed_right (numbers.right_fixed t im a.1), held_right (numbers.agreed t im e))

  pub accepts : (WrongLength t im → ⊥) → FixedRight t im → HeldRight t im → image_refusal t im ≡ 0
  accepts l f d = numbers.accepts t im (no_length l) (numbers.fixed_right t im (no_fixed f)) (no_held d)
