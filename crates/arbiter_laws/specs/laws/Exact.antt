-- Where everybody requests, the measure falls by exactly one, down to 0 at the member's own grant.
use Rattle.std.specs.Prelude.{◌≡◌, ◌⊎◌, ℕ, ◌+◌, ◌*◌, ◌<◌, true, false, eqb}
use Rattle.std.proofs.Math.Path.{refl}
use Rattle.std.proofs.Common.{sym, ap, ◌∙◌, arith}
use Rattle.std.proofs.Math.Logic.{inl, inr}
use Rattle.std.proofs.lemmas.Bool.{false≢true}
use borrow.Author.Tests.{eqb-true, eqb-false}
use Rattle.arbiter.specs.declared.State.{State}
use Rattle.arbiter.specs.definitions.Rings.{◌has◌, low_place}
use Rattle.arbiter.specs.definitions.Arbiter.{step}
use Rattle.rack.specs.laws.Bools.{tested}
use Rattle.arbiter_laws.specs.definitions.Fair.{highs}
use Rattle.arbiter_laws.specs.laws.Order.{Next, ahead, all_ahead, Exactly, once}
use Rattle.arbiter_laws.specs.laws.Steps.{asks_low, asks_high, ToHigh, ToLow, cases}
use Rattle.arbiter_laws.specs.laws.Live.{in_low, live, live_count, some_low, low_sub, high_sub, high_asks, low_asks, place_asks, low_all, high_all}
use Rattle.arbiter_laws.specs.laws.Measure.{measure, not_low, upper_one}

lower_one : (a n b b' : ℕ) → b' + 1 ≡ b → a * n + b' + 1 ≡ a * n + b
lower_one a n b b' h = omega arith

both_zero : (a n b : ℕ) → a ≡ 0 → b ≡ 0 → a * n + b ≡ 0
both_zero a n b ea eb = omega (arith, ap (λ (x : ℕ). x * n) ea)

module _ (mask requests : ℕ) (s : State) (m : ℕ) (hm : m < 10) (asked : (requests has m) ≡ true)
    (all : (i : ℕ) → i < 10 → (requests has i) ≡ true) where
  high_once : {q : ℕ} → Next (asks_high mask requests s) s.high q → (p : ℕ) → p < 11 → asks_high mask requests s p ≡ true
      → Exactly (live mask) s.high q p
  high_once n p hp ask = once (live mask) (asks_high mask requests s) (high_sub mask requests s) n p hp ask (high_all mask requests s all)

  apart : (g h : ℕ) → (mask has g) ≡ true → (mask has h) ≡ false → g ≡ h → ⊥
  apart g h t f e = false≢true (sym f ∙ ap (λ (x : ℕ). mask has x) (sym e) ∙ t)

  -- a grant to g, with the state t after it
  abbrev pub Once : ℕ → State → Type 0
  Once g t = ((g ≡ m) × (measure mask s m ≡ 0)) ⊎ ((g ≡ m → ⊥) × (measure mask t m + 1 ≡ measure mask s m))

  high_for_high : (g : ℕ) → ToHigh mask requests s g → (mask has m) ≡ true → Once g (record { high = g; low = s.low })
  unfolding measure
  high_for_high g v h =
      let ring = high_once v.place m (omega arith) (high_asks mask requests s m hm asked h) in
      tested (eqb g m)
      (λ e. inl (eqb-true g m e, rw h (ring.own (eqb-true g m e))))
      (λ e. inr (eqb-false g m e, rw h (ring.other (eqb-false g m e))))

  high_for_low : (g : ℕ) → ToHigh mask requests s g → (mask has m) ≡ false → Once g (record { high = g; low = s.low })
  unfolding measure
  high_for_low g v h =
      let ring = high_once v.place low_place (omega arith) (place_asks mask requests s m hm asked h) in
      let fewer = ring.other (not_low g v.member) in
      inr (
        apart g m v.high h,
        rw h (lower_one (ahead s.low (in_low mask) m) (highs mask + 1) (ahead s.high (live mask) low_place)
            (ahead g (live mask) low_place) fewer),
      )

  low_for_high : (g : ℕ) → ToLow mask requests s g → (mask has m) ≡ true → Once g (record { high = low_place; low = g })
  unfolding measure
  low_for_high g v h =
      let ring = high_once v.place m (omega arith) (high_asks mask requests s m hm asked h) in
      inr (λ e. apart m g h v.low (sym e), rw h (ring.other (λ e. not_low m hm (sym e))))

  -- the low place is granted, so none was ahead of it and all others of the high ring are now
  low_for_low : (g : ℕ) → ToLow mask requests s g → (mask has m) ≡ false → Once g (record { high = low_place; low = g })
  unfolding measure
  low_for_low g v h =
      let asks = place_asks mask requests s m hm asked h in
      let first = (high_once v.place low_place (omega arith) asks).own refl in
      let again = all_ahead (live mask) low_place low_place (omega arith) (high_sub mask requests s low_place (omega arith) asks) in
      let ring =
      once (in_low mask) (asks_low mask requests s) (low_sub mask requests s) v.handed m (omega arith) (low_asks mask requests s m hm asked h)
      (low_all mask requests s all) in
      tested (eqb g m)
      (λ e. inl (
        eqb-true g m e,
        rw h (both_zero (ahead s.low (in_low mask) m) (highs mask + 1) (ahead s.high (live mask) low_place)
            (ring.own (eqb-true g m e)) first),
      ))
      (λ e. inr (
        eqb-false g m e,
        rw h (upper_one (ahead s.low (in_low mask) m) (ahead g (in_low mask) m) (highs mask + 1)
            (ahead s.high (live mask) low_place) (ahead low_place (live mask) low_place) (ring.other (eqb-false g m e))
            (omega (arith, again, live_count mask, some_low mask m hm h)) first),
      ))

  pub falls_one : Once (step mask requests s).member (step mask requests s).after
  falls_one =
      cases mask requests s
      (λ v. absurd (false≢true (sym (v.nobody m hm) ∙ asked)))
      (λ g v. rw v.told (tested (mask has m) (high_for_high g v) (high_for_low g v)))
      (λ g v. rw v.told (tested (mask has m) (low_for_high g v) (low_for_low g v)))
