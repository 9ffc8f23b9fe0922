-- What keeps a seat's outside: nothing at all, one change after another, status bits, and a register write that is granted.
use Rattle.std.specs.Prelude.{◌≡◌, refl, Bool, false, ◌&&◌, ℕ, ◌/◌, ◌%◌, ◌<◌, ltb, eqb, length}
use Rattle.std.proofs.Math.Path.{sym, ap}
use Rattle.std.proofs.Common.{◌∙◌, inr, ⊎_elim, arith}
use Rattle.std.proofs.Math.Logic.{inl}
use Rattle.std.proofs.Math.Bool.{true, true≢false}
use mathlib.Core.List.{List}
use Rattle.std.proofs.Math.ListN.{get_or}
use borrow.Author.Tests.{ltb-true, ltb-false, eqb-true, eqb-false}
use Rattle.rack.specs.declared.Kind.{Kind}
use Rattle.rack.specs.declared.Node.{Node}
use Rattle.rack.specs.definitions.Tree.{Tree, parent_of}
use Rattle.rack.specs.definitions.Stored.{Stored}
use Rattle.rack.specs.laws.Bools.{tested}
use Rattle.seat.specs.definitions.Grants.{Acting, is_granted, may_write, has_dword}
use Rattle.seat.specs.laws.Writing.{may_granted}
use Rattle.register_header.specs.definitions.PciRegs.{BRIDGE_CONTROL}
use Rattle.register_header.specs.definitions.Register.{write_register}
use Rattle.register_image.specs.definitions.Image.{Images, image_of, view, write_node}
use Rattle.register_image.specs.definitions.Fixed.{lengths_wrong}
use Rattle.register_image.specs.definitions.Reset.{reset_part}
use Rattle.bus_reset.specs.definitions.Held.{is_below, resets, is_held}
use Rattle.bus_reset.specs.definitions.Agreement.{image_refusal}
use Rattle.bus_reset.specs.definitions.Store.{reset_below, below_reset, store_node}
use Rattle.register_laws.specs.laws.Images.{view_missing, view_length, on_lengths, on_right, view_same, view_other}
use Rattle.register_laws.specs.laws.Registers.{dword_off, write_past, write_is, write_length}
use Rattle.register_laws.specs.laws.Accepted.{agreed}
use Rattle.register_laws.specs.laws.Resets.{unchanged, some_lengths}
use Rattle.register_laws.specs.laws.Above.{found_above}
use Rattle.register_laws.specs.laws.Held.{resets_by, resets_same, held_unchanged, below_view}
use Rattle.claim_laws.specs.definitions.Same.{SameButStatus}
use Rattle.seat_laws.specs.definitions.Kept.{SameOutside, NodeKept, Kept}

same_refl : (t : Tree) (by : Acting) (i : ℕ) (p : List ℕ) → SameOutside t by i p p
same_refl t by i p k hk n = (refl, refl)

same_trans : (t : Tree) (by : Acting) (i : ℕ) (p q r : List ℕ) → SameOutside t by i p q → SameOutside t by i q r → SameOutside t by i p r
same_trans t by i p q r a b k hk n = ((a k hk n).0 ∙ (b k hk n).0, (a k hk n).1 ∙ (b k hk n).1)

pub kept_refl : (t : Tree) (by : Acting) (im : Images) → Kept t by im im
kept_refl t by im = record { lengths = λ k. refl; nodes = λ i h. inl (same_refl t by i (view t im i)) }

pub kept_trans : {t : Tree} {by : Acting} {im im' im'' : Images} → Kept t by im im' → Kept t by im' im'' → Kept t by im im''
kept_trans {t} {by} {im} {im'} {im''} a b =
    record {
      lengths = λ k. a.lengths k ∙ b.lengths k;
      nodes = λ i h.
          ⊎_elim
          (λ q.
          ⊎_elim (λ p. inl (same_trans t by i (view t im i) (view t im' i) (view t im'' i) p q))
          (λ p. inr (p.0, same_trans t by i (reset_part (t.node i)) (view t im' i) (view t im'' i) p.1 q)) (a.nodes i h))
          (λ q. inr q) (b.nodes i h);
    }

pub status_kept : {t : Tree} {im im' : Images} (by : Acting) → SameButStatus t im im' → Kept t by im im'
status_kept by s =
    record { lengths = s.lengths; nodes = λ i h. inl (λ k hk n. ((s.views i h).bits k, (s.views i h).above k)) }

-- a granted register write leaves the bytes of every dword that is not granted
module _ (by : Acting) (other : by.seat ≡ 0 → ⊥) (g register : ℕ) (aligned : register % 4 ≡ 0) (may : may_write by g register ≡ true) where
  dword : ℕ → Bool
  dword d = (by.grants.grant by.seat g).named && has_dword (by.grants.grant by.seat g).mask d

  off_dword : (n : Node) (part : List ℕ) (enables put k : ℕ) → is_granted by g k ≡ false
      → get_or (write_register n part register enables put) k 0 ≡ get_or part k 0
  unfolding dword
  off_dword n part enables put k out =
      tested (ltb register 64)
      (λ q.
      let low = ltb-true register 64 q in
      rw (write_is n part register enables put low)
      (dword_off n part register enables put k
      (λ m hm e.
      let same : register / 4 ≡ k / 4 = omega (arith, e, aligned) in
      let granted : is_granted by g register ≡ true = sym (may_granted by g register other low) ∙ may in
      true≢false (sym granted ∙ ap dword same ∙ out))))
      (λ q. rw (write_past n part register enables put (ltb-false register 64 q)))

  module _ (t : Tree) (im : Images) (enables put : ℕ) (pl : Stored t) (right : lengths_wrong t im ≡ false) where
    f : List ℕ → List ℕ
    f part = write_register (t.node g) part register enables put

    f_length : g < t.count → length (f (view t im g)) ≡ 64
    unfolding f
    f_length h = write_length (t.node g) (view t im g) register enables put ∙ view_length t im pl right g h

    written : Images
    written = write_node t im g register enables put

    written_right : lengths_wrong t written ≡ false
    unfolding written f
    written_right = on_right t im g f f_length right

    written_lengths : (k : Kind) → length (image_of im k) ≡ length (image_of written k)
    unfolding written f
    written_lengths k = sym (on_lengths t im g f f_length k)

    -- a byte that is not granted stays
    written_byte_lem : (i : ℕ) → i < t.count → (k : ℕ) → is_granted by i k ≡ false → get_or (view t written i) k 0 ≡ get_or (view t im i) k 0
    unfolding written f
    written_byte_lem i h k out =
        tested (eqb i g)
        (λ q.
        let e = eqb-true i g q in
        let hg : g < t.count = omega (arith, e) in
        rw (e, view_same t im g f f_length pl right hg) (off_dword (t.node g) (view t im g) enables put k (rw e at out)))
        (λ q. ap (λ (l : List ℕ). get_or l k 0) (view_other t im g f f_length pl right i (eqb-false i g q)))

    written_same : (i : ℕ) → i < t.count → SameOutside t by i (view t im i) (view t written i)
    written_same i h k hk out = rw (written_byte_lem i h k out) (refl, refl)

    module _ (accepted : image_refusal t im ≡ 0) where
      -- what is below a bridge that resets it: at reset, by a seat that may write its bridge control register, or at reset before
      below_same : resets t written g ≡ true → (i : ℕ) → i < t.count → is_below t g i ≡ true
          → NodeKept t by im (reset_below t written g) i
      below_same on i h below =
          tested (is_granted by g BRIDGE_CONTROL)
          (λ q.
          inr (
            found_above t (λ b. is_granted by b BRIDGE_CONTROL) g (parent_of t i) q below,
            rw at_reset_lem (same_refl t by i (reset_part (t.node i))),
          ))
          (λ q.
          let was : resets t im g ≡ true = sym (still q) ∙ on in
          let held = found_above t (resets t im) g (parent_of t i) was below in
          let before : view t im i ≡ reset_part (t.node i) =
          unchanged (t.node i) (view t im i) (view_length t im pl right i h) (held_unchanged t im (agreed t im accepted) i h held) in
          inl (rw (at_reset_lem, before) (same_refl t by i (reset_part (t.node i)))))
        where
          at_reset_lem : view t (reset_below t written g) i ≡ reset_part (t.node i)
          at_reset_lem = below_view t written pl g written_right i h ∙ rw below

          still : is_granted by g BRIDGE_CONTROL ≡ false → resets t written g ≡ resets t im g
          still q =
              tested (ltb g t.count) (λ hg. resets_by t written im g (written_byte_lem g (ltb-true g _ hg) BRIDGE_CONTROL q))
              (λ hg.
              resets_same t written im g
              (view_missing t written g (ltb-false g _ hg) ∙ sym (view_missing t im g (ltb-false g _ hg))))

      pub stored_kept : Kept t by im (store_node t im g register enables put)
      unfolding store_node below_reset written
      stored_kept =
          tested (is_held t im g) (λ held. rw held (kept_refl t by im))
          (λ free.
          tested (resets t written g)
          (λ on. rw (free, on) (set on))
          (λ off. rw (free, off) (record { lengths = written_lengths; nodes = λ i h. inl (written_same i h) })))
        where
          set : resets t written g ≡ true → Kept t by im (reset_below t written g)
          set on =
              record {
                lengths = λ k. written_lengths k ∙ sym (some_lengths t (is_below t g) pl written written_right k);
                nodes = λ i h.
                    tested (is_below t g i) (λ below. below_same on i h below)
                    (λ below. inl (rw (below_view t written pl g written_right i h, below) (written_same i h)));
              }
