-- What a call hands back once its refusal is known, from the numbers that were found.
use Rattle.std.specs.Prelude.{◌≡◌, ℕ, Err, IsErrAnd}
use Rattle.std.specs.Prelude as std
use Rattle.std.proofs.Common.{sym, ap, ◌∙◌}
use Rattle.rack.specs.declared.refusal.Refusal.{Refusal}
use Rattle.rack.specs.definitions.Refused.{refusal_number}
use Rattle.rack.specs.definitions.Tree.{Tree}
use Rattle.rack.specs.definitions.First.{unless}
use Rattle.rack.specs.laws.FirstLaws.{unless_number, unless_none}
use Rattle.rack.specs.laws.RefusedLaws.{refusal_not_0, handed_on}
use Rattle.seat.specs.definitions.Grants.{Grants}
use Rattle.register_image.specs.definitions.Image.{Images}
use Rattle.call_table.specs.definitions.Call.{Reply, numbered, refusal_by}

module _ (t : Tree) (g : Grants) (im : Images) (field seat : ℕ) {n m : ℕ} (en : n ≡ field) (em : m ≡ seat) where
  pub is_number : {r : ℕ} → r ≡ refusal_by t g im n m → r ≡ refusal_by t g im field seat
  is_number er = er ∙ ap (λ (k : ℕ). refusal_by t g im k m) en ∙ ap (refusal_by t g im field) em

  pub is_none : {r : ℕ} → r ≡ refusal_by t g im n m → r ≡ 0 → 0 ≡ refusal_by t g im field seat
  is_none er z = sym (sym (is_number er) ∙ z)

  -- a refused call, and an accepted one
  module _ {A : Type 0} (given : A) (refused : ℕ → A) where
    pub is_refused : {r : ℕ} {a : A} → r ≡ refusal_by t g im n m → (r ≡ 0 → ⊥) → a ≡ refused r
        → a ≡ unless (refusal_by t g im field seat) given refused
    is_refused er ne ea =
        let e = is_number er in ea ∙ ap refused e ∙ sym (unless_number given refused (λ z. ne (e ∙ z)))

    pub is_given : {r : ℕ} {a : A} → r ≡ refusal_by t g im n m → r ≡ 0 → a ≡ given
        → a ≡ unless (refusal_by t g im field seat) given refused
    is_given er z ea = ea ∙ sym (unless_none given refused (sym (is_number er) ∙ z))

  -- a `?` hands the refusal on
  pub is_handed_on : {A : Type 0} (given : Reply A) (r : Refusal) (x : std.Result A Refusal) → refusal_number r ≡ refusal_by t g im n m
      → IsErrAnd x (λ e. e ≡ r) → numbered x ≡ unless (refusal_by t g im field seat) given Err
  is_handed_on given r x er ex = is_refused given Err er (refusal_not_0 r) (ap numbered (handed_on x ex))
