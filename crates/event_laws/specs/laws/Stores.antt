-- What a register write changes, with all that it does, in accepted images.
use Rattle.std.specs.Prelude.{◌≡◌, ◌⊎◌, true, false, cond, List, ℕ, ◌<◌, eqb, ltb, length}
use Rattle.std.proofs.Common.{sym, ◌∙◌, inr, ⊎_elim, eqb-true, ltb-true, ltb-false}
use Rattle.std.proofs.Math.Path.{ap}
use Rattle.std.proofs.lemmas.Bool.{false≢true, eqb-false}
use Rattle.rack.specs.definitions.Tree.{Tree, parent_of}
use Rattle.rack.specs.definitions.Stored.{Stored}
use Rattle.rack.specs.definitions.Refusal.{rack_refusal}
use Rattle.rack.specs.laws.Bools.{tested}
use Rattle.register_header.specs.definitions.Register.{write_register}
use Rattle.register_image.specs.definitions.Image.{Images, view, write_node}
use Rattle.register_image.specs.definitions.Reset.{reset_part}
use Rattle.bus_reset.specs.definitions.Held.{is_below, resets, is_held}
use Rattle.bus_reset.specs.definitions.Agreement.{image_refusal}
use Rattle.bus_reset.specs.definitions.Store.{reset_below, below_reset, store_node}
use Rattle.register_laws.specs.laws.Images.{view_missing, view_length, view_same, view_other}
use Rattle.register_laws.specs.laws.Registers.{write_length}
use Rattle.register_laws.specs.laws.Accepted.{accepted, agreed, write_sound, accepted_sound, Sound}
use Rattle.register_laws.specs.laws.Resets.{unchanged}
use Rattle.register_laws.specs.laws.Above.{above_found, found_above, above_own}
use Rattle.register_laws.specs.laws.Held.{resets_same, held_unchanged, below_view}
use Rattle.event_laws.specs.definitions.Stores.{Stores}

module _ (t : Tree) (ok : rack_refusal t ≡ 0) (st : Stored t) (im : Images) (e : image_refusal t im ≡ 0) (i register enables put : ℕ) where
  written : Images
  written = write_node t im i register enables put

  after : Images
  after = store_node t im i register enables put

  put_in : List ℕ → List ℕ
  put_in part = write_register (t.node i) part register enables put

  put_length : i < t.count → length (put_in (view t im i)) ≡ 64
  unfolding put_in
  put_length h = write_length (t.node i) (view t im i) register enables put ∙ view_length t im st (accepted t im e).0 i h

  written_own : i < t.count → view t written i ≡ put_in (view t im i)
  unfolding written put_in
  written_own h = view_same t im i put_in put_length st (accepted t im e).0 h

  written_other : (j : ℕ) → (j ≡ i → ⊥) → view t written j ≡ view t im j
  unfolding written put_in
  written_other j ne = view_other t im i put_in put_length st (accepted t im e).0 j ne

  written_right : Sound t written
  unfolding written
  written_right = write_sound t im i register enables put st (accepted_sound t im e)

  -- what is at reset below node i, and what is not
  below_is : (j : ℕ) → j < t.count → view t (reset_below t written i) j ≡ cond (is_below t i j) (reset_part (t.node j)) (view t written j)
  below_is j h = below_view t written st i written_right.lengths j h

  when_held : is_held t im i ≡ true → after ≡ im
  unfolding after store_node
  when_held q = rw q

  when_set : is_held t im i ≡ false → resets t written i ≡ true → after ≡ reset_below t written i
  unfolding after store_node below_reset written
  when_set q s = rw (q, s)

  when_clear : is_held t im i ≡ false → resets t written i ≡ false → after ≡ written
  unfolding after store_node below_reset written
  when_clear q s = rw (q, s)

  -- its own part, and whether bit 6 is set, are those of the write alone
  own_view : is_held t im i ≡ false → view t after i ≡ view t written i
  own_view q =
      tested (resets t written i)
      (λ s.
      tested (ltb i t.count)
      (λ h. rw (when_set q s) (below_is i (ltb-true i _ h) ∙ rw (above_own t ok i (ltb-true i _ h))))
      (λ h. view_missing t after i (ltb-false i _ h) ∙ sym (view_missing t written i (ltb-false i _ h))))
      (λ s. rw (when_clear q s))

  own_resets : is_held t im i ≡ false → resets t after i ≡ resets t written i
  own_resets q = resets_same t after written i (own_view q)

  -- a node below a bridge whose bit 6 is set is at reset already
  at_reset_lem : resets t im i ≡ true → (j : ℕ) → j < t.count → is_below t i j ≡ true → view t im j ≡ reset_part (t.node j)
  at_reset_lem s j h b =
      unchanged (t.node j) (view t im j) (view_length t im st (accepted t im e).0 j h)
      (held_unchanged t im (agreed t im e) j h (found_above t (resets t im) i (parent_of t j) s b))

  set_other : is_held t im i ≡ false → resets t written i ≡ true → (j : ℕ) → j < t.count → (j ≡ i → ⊥)
      → view t after j ≡ cond (is_below t i j) (reset_part (t.node j)) (view t im j)
  set_other q s j h ne = rw (when_set q s) (below_is j h ∙ ap (cond (is_below t i j) (reset_part (t.node j))) (written_other j ne))

  alone_set : is_held t im i ≡ false → resets t written i ≡ true → resets t im i ≡ true → (j : ℕ) → (j ≡ i → ⊥)
      → view t after j ≡ view t im j
  alone_set q s was j ne =
      tested (ltb j t.count)
      (λ h.
      let hj = ltb-true j _ h in
      tested (is_below t i j) (λ b. set_other q s j hj ne ∙ rw b (sym (at_reset_lem was j hj b))) (λ b. set_other q s j hj ne ∙ rw b))
      (λ h. view_missing t after j (ltb-false j _ h) ∙ sym (view_missing t im j (ltb-false j _ h)))

  -- where bit 6 was set before, or is clear after it, no other node changes
  other_view : (resets t im i ≡ true) ⊎ (resets t after i ≡ false) → (j : ℕ) → (j ≡ i → ⊥) → view t after j ≡ view t im j
  other_view o j ne =
      tested (is_held t im i) (λ q. ap (λ (u : Images). view t u j) (when_held q))
      (λ q.
      tested (resets t written i)
      (λ s. ⊎_elim (λ was. alone_set q s was j ne) (λ off. absurd (false≢true (sym off ∙ own_resets q ∙ s))) o)
      (λ s. ap (λ (u : Images). view t u j) (when_clear q s) ∙ written_other j ne))

  -- a held node has a bridge above it that resets, and this one does not
  let_go : resets t after i ≡ false → (j : ℕ) → ((b : ℕ) → (b ≡ i → ⊥) → is_below t b j ≡ true → resets t im b ≡ false)
      → is_held t after j ≡ false
  let_go off j none =
      tested (is_held t after j)
      (λ q.
      let b = above_found t (resets t after) (parent_of t j) q in
      tested (eqb b.0 i) (λ r. absurd (false≢true (sym off ∙ ap (resets t after) (sym (eqb-true b.0 i r)) ∙ b.1)))
      (λ r.
      let ne = eqb-false b.0 i r in
      absurd (false≢true (sym (none b.0 ne b.2) ∙ sym (resets_same t after im b.0 (other_view (inr off) b.0 ne)) ∙ b.1))))
      (λ q. q)

  pub stores : Stores t im i register enables put (store_node t im i register enables put)
  unfolding after put_in
  stores =
      record {
        held = when_held;
        own = λ q h. own_view q ∙ written_own h;
        alone = other_view;
        sets = λ off on j h ne.
            tested (is_held t im i)
            (λ q. absurd (false≢true (sym off ∙ ap (λ (u : Images). resets t u i) (sym (when_held q)) ∙ on)))
            (λ q. set_other q (sym (own_resets q) ∙ on) j h ne);
        holds = λ on j b. found_above t (resets t after) i (parent_of t j) on b;
        lets_go = let_go;
      }
