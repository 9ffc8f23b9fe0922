-- The refusal of a call, and what an accepted run gives.
use mathlib.Core.Path.{◌≡◌, sym, ap, ◌∙◌}
use mathlib.Core.Bool.{Bool, true, false, ◌||◌}
use Prim.Native.Nat.{ℕ}
use lib.Dec.{leb, ltb}
use Rattle.std.specs.Prelude.{◌≢◌, Result, Ok, Err, IsErrAnd, IfErr}
use Rattle.std.proofs.lemmas.Result.{IfErr-at_err}
use Rattle.rack.specs.declared.refusal.Refusal.{Refusal}
use Rattle.rack.specs.definitions.Refused.{refusal_number}
use Rattle.rack.specs.definitions.Tree.{Tree}
use Rattle.rack.specs.definitions.Refusal.{rack_refusal}
use Rattle.rack.specs.definitions.First.{◌when◌, ◌or◌}
use Rattle.rack.specs.laws.FirstLaws.{or_none, or_this}
use Rattle.rack.specs.laws.RefusedLaws.{refusal_not_0, after_none}
use Rattle.seat.specs.definitions.Grants.{Grants}
use Rattle.register_image.specs.definitions.Image.{Images}
use Rattle.call_table.specs.definitions.Call.{Numbers, number_by, refusal_by}

-- an accepted call has an accepted rack
pub accepted_rack : (t : Tree) (g : Grants) (im : Images) (field seat : ℕ) → 0 ≡ refusal_by t g im field seat → rack_refusal t ≡ 0
unfolding refusal_by
accepted_rack t g im field seat e = (or_none (rack_refusal t) _ (sym e)).0

-- a refusal's error is told by the refusal's number, a field's by its own
module _ {E : Type 0} (n : E → ℕ) where
  pub given_first : {gives : Refusal → E → Type 0} → Numbers gives n → (m : ℕ) {A : Type 0} {k : ℕ} (x : Result A E) (r : Refusal)
      → IsErrAnd x (gives r) → refusal_number r ≡ k → number_by n x ≡ k or m
  given_first numbers m (Ok v) r h e = absurd h
  given_first numbers m {k = k} (Err y) r h e = numbers r y h ∙ e ∙ sym (or_this k m (λ z. refusal_not_0 r (e ∙ z)))

  pub field_first : (m : ℕ) {A B : Type 0} {e : E} (x : Result A E) → IsErrAnd x (λ y. y ≡ e) → (field : Result B E) → field ≡ Err e
      → IfErr field (λ y. n y ≢ 0) → number_by n x ≡ number_by n field or m
  field_first m (Ok v) h field q ne = absurd h
  field_first m {e = e} (Err y) h field q ne =
      let told : n e ≡ number_by n field = sym (ap (number_by n) q) in
      ap n h ∙ told ∙ sym (or_this (number_by n field) m (λ z. IfErr-at_err (λ y. n y ≢ 0) q ne (told ∙ z)))

-- what comes after an accepted rack and accepted images
pub after_images : {rack image k m : ℕ} → 0 ≡ rack → 0 ≡ image → k ≡ m → k ≡ rack or image or m
after_images er ei q = after_none _ er (after_none _ ei q)

-- 0 is no refusal's number
pub refusals_not_0 : {A : Type 0} (x : Result A Refusal) → IfErr x (λ r. refusal_number r ≢ 0)
refusals_not_0 (Ok v) = tt
refusals_not_0 (Err r) = refusal_not_0 r

-- 14 of the seat records, and what comes after it
module _ {w c : Bool} (e : w ≡ c) (m : ℕ) where
  pub wrong_grants : w ≡ true → 14 ≡ 14 when c or m
  wrong_grants h = rw (← e, h)

  pub right_grants : w ≡ false → m ≡ 14 when c or m
  right_grants h = rw (← e, h)

-- 13 of a field: what the code has looked up is the tree's
pub missing_or : (i : ℕ) (w : Bool) {c k n : ℕ} → c ≡ k → n ≡ 13 when (leb c i || w) → n ≡ 13 when (leb k i || w)
missing_or i w e q = rw (← e) q

pub missing_is : (i : ℕ) {c k n : ℕ} → c ≡ k → n ≡ 13 when leb c i → n ≡ 13 when leb k i
missing_is i e q = rw (← e) q

pub missing_bridge : (i r : ℕ) {b d : Bool} {c k n : ℕ} → c ≡ k → b ≡ d → n ≡ 13 when (leb c i || (b || ltb 2 r))
    → n ≡ 13 when (leb k i || (d || ltb 2 r))
missing_bridge i r e f q = rw (← e, ← f) q

pub wrong_is : {b d : Bool} {n : ℕ} → b ≡ d → n ≡ 13 when b → n ≡ 13 when d
wrong_is e q = rw (← e) q

-- 15 of the seat that acts, or of one that the event names
module _ {told named x y : Bool} (et : told ≡ x) (en : named ≡ y) where
  pub unknown_seat_lem : told || named ≡ true → 15 ≡ 15 when (x || y)
  unknown_seat_lem h = rw (← et, ← en, h)

  pub known_seats : told || named ≡ false → 0 ≡ 15 when (x || y)
  known_seats h = rw (← et, ← en, h)
