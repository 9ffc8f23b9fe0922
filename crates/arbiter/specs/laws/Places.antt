-- The places of the two rings: each ring is the list of those of the eleven places that are in it.
use Rattle.std.specs.Prelude.{◌≡◌, ◌⊎◌, Bool, ◌||◌}
use Rattle.std.proofs.Math.Path.{refl, sym, ap, ap₂}
use Rattle.std.proofs.Common.{◌∙◌, inl, inr, eq-or-lt_of_le, arith}
use Rattle.std.proofs.Math.Logic.{⊎_elim, ⊎_map}
use Prim.Native.Nat.{ℕ, zero, suc, ◌+◌, ◌≤◌, ◌<◌}
use Rattle.std.proofs.Math.Bool.{false, not, cond, or-false}
use mathlib.Core.List.{List, [], ◌∷◌, ◌++◌, append-nil}
use Rattle.std.proofs.Math.Dec.{eqb}
use borrow.Author.Tests.{eq-eqb, ne_eqb}
use Rattle.arbiter.specs.definitions.Rings.{◌has◌, up_from, keep, is_in, high_members, low_place, high_ring, low_ring}
use Rattle.rack.specs.laws.Bools.{tested}
use Rattle.arbiter.specs.laws.Search.{keep_append, keep_same}

-- each of the eleven places is the low place or a member's
pub low_or_member : (p : ℕ) → p < 11 → (p ≡ low_place) ⊎ (p < 10)
low_or_member p h = eq-or-lt_of_le {n = p} {m = 10} (omega arith)

is_in_append : (p : ℕ) (xs ys : List ℕ) → is_in p (xs ++ ys) ≡ (is_in p xs || is_in p ys)
unfolding is_in
is_in_append p [] ys = refl
is_in_append p (x ∷ xs) ys = tested (eqb p x) (λ e. rw e) (λ e. rw e (is_in_append p xs ys))

module _ (f : ℕ → Bool) (p : ℕ) where
  -- of the n places from i on those are kept that pass, and no other place is
  out_kept : (n i : ℕ) → (p < i) ⊎ (i + n ≤ p) → is_in p (keep f (up_from i n)) ≡ false
  unfolding is_in keep up_from
  out_kept zero i h = refl
  out_kept (suc n) i h =
      let ih = out_kept n (i + 1) (⊎_map (λ (lt : p < i). omega arith) (λ (ge : i + suc n ≤ p). omega arith) h) in
      let other : eqb p i ≡ false = ne_eqb p i (λ e. ⊎_elim (λ (lt : p < i). omega arith) (λ (ge : i + suc n ≤ p). omega arith) h) in
      tested (f i) (λ k. simp (k, other, ih)) (λ k. simp (k, ih))

  in_kept : (n i : ℕ) → i ≤ p → p < i + n → is_in p (keep f (up_from i n)) ≡ f p
  unfolding is_in keep up_from
  in_kept zero i ge lt = absurd (omega arith)
  in_kept (suc n) i ge lt =
      ⊎_elim
      (λ (e : i ≡ p). tested (f i) (λ k. simp (k, eq-eqb p i (sym e), sym (ap f e)))
      (λ k. simp (k, out_kept n (i + 1) (inl (omega arith)), sym (ap f e))))
      (λ (l : i < p). tested (f i) (λ k. simp (k, ne_eqb p i (λ e. omega arith), in_kept n (i + 1) (omega arith) (omega arith)))
      (λ k. simp (k, in_kept n (i + 1) (omega arith) (omega arith))))
      (eq-or-lt_of_le ge)

module _ (mask p : ℕ) where
  pub high_member : p < 10 → is_in p (high_ring mask) ≡ (mask has p)
  unfolding is_in
  high_member h =
      is_in_append p (high_members mask) (low_place ∷ [])
      ∙ ap₂ (λ (a b : Bool). a || (b || false)) (in_kept (λ i. mask has i) p 10 0 (omega arith) h) (ne_eqb p low_place (λ e. omega arith))
      ∙ or-false (mask has p)

  pub low_member : p < 10 → is_in p (low_ring mask) ≡ not (mask has p)
  low_member h = in_kept (λ i. not (mask has i)) p 10 0 (omega arith) h

  pub high_others : 10 ≤ p → is_in p (high_ring mask) ≡ eqb p low_place
  unfolding is_in
  high_others h =
      is_in_append p (high_members mask) (low_place ∷ [])
      ∙ ap (λ (a : Bool). a || (eqb p low_place || false)) (out_kept (λ i. mask has i) p 10 0 (inr h)) ∙ or-false (eqb p low_place)

  pub low_others : 10 ≤ p → is_in p (low_ring mask) ≡ false
  low_others h = out_kept (λ i. not (mask has i)) p 10 0 (inr h)

-- the rings as lists of those places that are in them
module _ (mask : ℕ) where
  pub high_kept : high_ring mask ≡ keep (λ p. is_in p (high_ring mask)) (up_from 0 11)
  unfolding keep up_from
  high_kept =
      ap₂ {C = List ℕ} (λ a b. a ++ b)
      (keep_same (λ i. mask has i) (λ p. is_in p (high_ring mask)) 10 0 (λ p ge lt. sym (high_member mask p lt)))
      (ap (λ (a : Bool). cond a (low_place ∷ []) []) (sym (high_others mask low_place (omega arith))))
      ∙ sym (keep_append (λ p. is_in p (high_ring mask)) (up_from 0 10) (low_place ∷ []))

  pub low_kept : low_ring mask ≡ keep (λ p. is_in p (low_ring mask)) (up_from 0 11)
  unfolding keep up_from
  low_kept =
      keep_same (λ i. not (mask has i)) (λ p. is_in p (low_ring mask)) 10 0 (λ p ge lt. sym (low_member mask p lt))
      ∙ sym (append-nil (keep (λ p. is_in p (low_ring mask)) (up_from 0 10)))
      ∙ ap (λ (a : Bool). keep (λ p. is_in p (low_ring mask)) (up_from 0 10) ++ cond a (low_place ∷ []) [])
      (sym (low_others mask low_place (omega arith)))
      ∙ sym (keep_append (λ p. is_in p (low_ring mask)) (up_from 0 10) (low_place ∷ []))
