-- 'a member that keeps requesting is granted within H + 1 grants if high and (H + 1) times L if low', from every state.
use Rattle.std.specs.Prelude.{◌≡◌, ℕ, zero, suc, ◌+◌, ◌≤◌, ◌<◌, Bool, true, false, cond, eqb, length, take}
use Rattle.std.proofs.Math.Path.{refl}
use Rattle.std.proofs.Common.{sym, ap, ⊎_elim, le_of_suc-le-suc, lt_of_lt_of_le, true≢false, eq-eqb, ne_eqb, eqb-true}
use native.Mathlib.Omega.{arith}
use mathlib.Core.List.{List, [], ◌∷◌, ◌++◌}
use Rattle.std.proofs.lemmas.Bool.{eqb-false}
use Rattle.arbiter.specs.declared.State.{State}
use Rattle.arbiter.specs.definitions.Rings.{◌has◌, is_in, none}
use Rattle.arbiter.specs.definitions.Arbiter.{step}
use Rattle.rack.specs.laws.Bools.{tested}
use Rattle.arbiter_laws.specs.definitions.Fair.{run_from, run, grants, Keeps, waits, Within, highs, lows, bound, least}
use Rattle.arbiter_laws.specs.laws.Granted.{is_granted_lem}
use Rattle.arbiter_laws.specs.laws.Live.{some_low}
use Rattle.arbiter_laws.specs.laws.Measure.{measure, falls, measure_lt}

-- a set that gives a grant
pub grants_one : (mask requests : ℕ) (s : State) (rest : List ℕ) → ((step mask requests s).member ≡ none → ⊥)
    → grants mask s (requests ∷ rest) ≡ (step mask requests s).member ∷ grants mask (step mask requests s).after rest
unfolding grants
grants_one mask requests s rest n = rw (ne_eqb (step mask requests s).member none n)

-- the grants of a list in two parts
pub grants_append : (mask : ℕ) (s : State) (before after : List ℕ)
    → grants mask s (before ++ after) ≡ grants mask s before ++ grants mask (run_from mask s before) after
unfolding grants run_from
grants_append mask s [] after = refl
grants_append mask s (requests ∷ before) after =
    tested (eqb (step mask requests s).member none)
    (λ k. rw k (grants_append mask (step mask requests s).after before after))
    (λ k. rw k (ap {B = List ℕ} (λ r. (step mask requests s).member ∷ r) (grants_append mask (step mask requests s).after before after)))

module _ (mask m : ℕ) (hm : m < 10) where
  -- while a member requests every set gives a grant
  pub every_set : (list : List ℕ) (s : State) → Keeps m list → length (grants mask s list) ≡ length list
  unfolding grants
  every_set [] s keeps = refl
  every_set (requests ∷ rest) s keeps =
      rw (grants_one mask requests s rest (is_granted_lem mask requests s m hm keeps.0))
      (let e = every_set rest (step mask requests s).after keeps.1 in omega (arith, e))

  -- no more grants go to others than the measure says
  pub waits_le : (list : List ℕ) (s : State) → Keeps m list → waits m (grants mask s list) ≤ measure mask s m
  unfolding waits grants
  waits_le [] s keeps = omega arith
  waits_le (requests ∷ rest) s keeps =
      let ih = waits_le rest (step mask requests s).after keeps.1 in
      rw (grants_one mask requests s rest (is_granted_lem mask requests s m hm keeps.0))
      (⊎_elim
      (λ (e : (step mask requests s).member ≡ m). rw (eq-eqb (step mask requests s).member m e) (omega arith))
      (λ (l : measure mask (step mask requests s).after m < measure mask s m).
      tested (eqb (step mask requests s).member m) (λ k. rw k (omega arith)) (λ k. rw k (omega (arith, ih, l))))
      (falls mask requests s m hm keeps.0))

  pub within_least : (list : List ℕ) (s : State) → Keeps m list → Within (least mask m) m (grants mask s list)
  within_least list s keeps = omega (arith, waits_le list s keeps, measure_lt mask m hm s)

  -- the least bound is the request's where there are low members, and H where all are high
  pub least_is : 0 < lows mask → least mask m ≡ bound mask m
  least_is h = tested (mask has m) (λ k. rw k (omega arith)) (λ k. rw k)

  pub least_high : lows mask ≡ 0 → least mask m ≡ highs mask
  least_high h = tested (mask has m) (λ k. rw k (omega arith)) (λ k. absurd (omega (arith, h, some_low mask m hm k)))

  least_le : least mask m ≤ bound mask m
  least_le = tested (mask has m) (λ k. rw k (omega arith)) (λ k. rw k (omega arith))

  -- from every state
  pub fair : (list : List ℕ) (s : State) → Keeps m list → Within (bound mask m) m (grants mask s list)
  fair list s keeps = lt_of_lt_of_le (within_least list s keeps) least_le

  -- and so at every place of every list
  pub fair_onwards : (before after : List ℕ) → Keeps m after → Within (bound mask m) m (grants mask (run mask before) after)
  fair_onwards before after keeps = fair after (run mask before) keeps

-- where that many grants are given, one of them is the member's
pub within_in : (m : ℕ) (list : List ℕ) (n : ℕ) → Within n m list → n ≤ length list → is_in m (take n list) ≡ true
unfolding waits is_in
within_in m [] n h le = absurd (omega arith)
within_in m (g ∷ rest) zero h le = absurd (omega arith)
within_in m (g ∷ rest) (suc n) h le =
    tested (eqb g m)
    (λ k. rw (eq-eqb m g (sym (eqb-true g m k))))
    (λ k. rw (ne_eqb m g (λ e. eqb-false g m k (sym e)))
    (within_in m rest n (le_of_suc-le-suc (fewer (eqb g m) k h)) (le_of_suc-le-suc le)))
  where
    fewer : (b : Bool) → b ≡ false → cond b 0 (waits m rest + 1) < suc n → suc (waits m rest) < suc n
    fewer true k l = absurd (true≢false k)
    fewer false k l = omega arith
