-- The bounds are met: a member that was granted last, and requests on while everybody does, needs exactly as many grants.
use Rattle.std.specs.Prelude.{◌≡◌, refl, true, not, [], ◌∷◌, length, replicate}
use Rattle.std.proofs.Common.{sym, subst, ◌∙◌, ⊎_elim, arith, eq-eqb, ne_eqb, eqb-true}
use Rattle.std.proofs.Math.Path.{ap}
use Prim.Native.Nat.{ℕ, zero, suc, ◌+◌, ◌<◌}
use Rattle.std.proofs.lemmas.List.{length-replicate}
use Rattle.arbiter.specs.declared.State.{State}
use Rattle.arbiter.specs.definitions.Rings.{◌has◌, none}
use Rattle.arbiter.specs.definitions.Arbiter.{first, step}
use Rattle.arbiter.specs.laws.Sets.{has_not, has_none, has_one}
use Rattle.arbiter_laws.specs.definitions.Fair.{run_from, run, grants, Keeps, waits, lows, bound, least, Needs, alone, everybody}
use Rattle.arbiter_laws.specs.laws.Granted.{is_granted_lem, to_requester, after_high, after_low}
use Rattle.arbiter_laws.specs.laws.Measure.{measure, measure_last}
use Rattle.arbiter_laws.specs.laws.Exact.{falls_one}
use Rattle.arbiter_laws.specs.laws.Fairness.{grants_one, least_is, every_set}

all_request : (i : ℕ) → i < 10 → (everybody has i) ≡ true
all_request i lt = has_not 10 0 i (omega arith) lt ∙ ap not (has_none 0 0 i (omega arith) (omega arith))

module _ (mask m : ℕ) (hm : m < 10) where
  -- everybody requests n times
  keeps_all : (n : ℕ) → Keeps m (replicate n everybody)
  keeps_all zero = tt
  keeps_all (suc n) = (all_request m hm, keeps_all n)

  granted_all : (s : State) → (step mask everybody s).member ≡ none → ⊥
  granted_all s = is_granted_lem mask everybody s m hm (all_request m hm)

  length_all : (n : ℕ) (s : State) → length (grants mask s (replicate n everybody)) ≡ n
  length_all n s = every_set mask m hm (replicate n everybody) s (keeps_all n) ∙ length-replicate n everybody

  waits_all : (n : ℕ) (s : State) → measure mask s m < n → waits m (grants mask s (replicate n everybody)) ≡ measure mask s m
  unfolding waits
  waits_all zero s h = absurd (omega arith)
  waits_all (suc n) s h =
      rw (grants_one mask everybody s (replicate n everybody) (granted_all s))
      (⊎_elim
      (λ (e : ((step mask everybody s).member ≡ m) × (measure mask s m ≡ 0)). rw (eq-eqb (step mask everybody s).member m e.0) (sym e.1))
      (λ (e : ((step mask everybody s).member ≡ m → ⊥) × (measure mask (step mask everybody s).after m + 1 ≡ measure mask s m)).
      rw (ne_eqb (step mask everybody s).member m e.0)
      (ap (λ (x : ℕ). x + 1) (waits_all n (step mask everybody s).after (omega (arith, h, e.1))) ∙ e.1))
      (falls_one mask everybody s m hm (all_request m hm) all_request))

  -- who requests alone is granted
  alone_granted : (s : State) → (step mask (alone m) s).member ≡ m
  alone_granted s =
      let asks : (alone m has m) ≡ true = has_one m m ∙ eq-eqb m m refl in
      let to = to_requester mask (alone m) s (is_granted_lem mask (alone m) s m hm asks) in
      eqb-true (step mask (alone m) s).member m (sym (has_one m (step mask (alone m) s).member) ∙ to.1)

  -- right after it, the wait is the longest
  longest : measure mask (run mask (alone m ∷ [])) m + 1 ≡ least mask m
  unfolding run_from
  longest =
      let e = alone_granted first in
      let some : (step mask (alone m) first).member ≡ none → ⊥ = λ n. omega (arith, n, e) in
      measure_last mask m hm (step mask (alone m) first).after
      (λ h. ap (λ t. t.high) (after_high mask (alone m) first (ap (λ (x : ℕ). mask has x) e ∙ h) some) ∙ e)
      (λ h. let after = after_low mask (alone m) first (ap (λ (x : ℕ). mask has x) e ∙ h) some in
      (ap (λ t. t.high) after, ap (λ t. t.low) after ∙ e))

  -- for every mask and member: its set alone, and then everybody's as often as the bound says
  pub met : Needs (least mask m) mask (run mask (alone m ∷ [])) m (replicate (least mask m) everybody)
  met = (
    keeps_all (least mask m),
    length_all (least mask m) (run mask (alone m ∷ [])),
    ap (λ (x : ℕ). x + 1) (waits_all (least mask m) (run mask (alone m ∷ [])) (omega (arith, longest))) ∙ longest,
  )

  -- with a low member the bound is the request's
  pub bound_met : 0 < lows mask → Needs (bound mask m) mask (run mask (alone m ∷ [])) m (replicate (bound mask m) everybody)
  bound_met h = subst (λ (n : ℕ). Needs n mask (run mask (alone m ∷ [])) m (replicate n everybody)) (least_is mask m hm h) met
