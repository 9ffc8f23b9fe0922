-- The measure of a member's wait: how many grants can go to others before its own. It falls at each grant to another while the member
-- requests.
use Rattle.std.specs.Prelude.{◌≡◌, ◌⊎◌, ℕ, suc, ◌+◌, ◌*◌, ◌≤◌, ◌<◌, true, false, cond, eqb}
use Rattle.std.proofs.Math.Path.{refl}
use Rattle.std.proofs.Common.{sym, ap, ◌∙◌, inl, inr, lt_of_lt_of_le, mul-le-mul_right, suc-mul, arith, eqb-true}
use Rattle.std.proofs.Math.Nat.{mul_comm}
use Rattle.std.proofs.lemmas.Bool.{false≢true, eqb-false}
use Rattle.arbiter.specs.declared.State.{State}
use Rattle.arbiter.specs.definitions.Rings.{◌has◌, low_place}
use Rattle.arbiter.specs.definitions.Arbiter.{step}
use Rattle.rack.specs.laws.Bools.{tested}
use Rattle.arbiter_laws.specs.definitions.Fair.{highs, lows, least}
use Rattle.arbiter_laws.specs.laws.Order.{Next, ahead, ahead_lt, all_ahead, passed}
use Rattle.arbiter_laws.specs.laws.Steps.{asks_low, asks_high, cases}
use Rattle.arbiter_laws.specs.laws.Live.{in_low, live, low_count, live_low, live_count, high_live, low_live, some_low, low_sub, high_sub, high_asks, low_asks, place_asks}

-- digits of a number: a smaller lower one, or a smaller upper one whatever the lower
lower_lt : (a n b b' : ℕ) → b' < b → a * n + b' < a * n + b
lower_lt a n b b' h = omega arith

upper_lt : (a a' n b b' : ℕ) → a' < a → b' < n → a' * n + b' < a * n + b
upper_lt a a' n b b' h hb = let le : suc a' * n ≤ a * n = mul-le-mul_right n h in omega (arith, le, suc-mul a' n)

pub upper_one : (a a' n b b' : ℕ) → a' + 1 ≡ a → b' + 1 ≡ n → b ≡ 0 → a' * n + b' + 1 ≡ a * n + b
upper_one a a' n b b' h hb h0 = omega (arith, suc-mul a' n, ap (λ (x : ℕ). x * n) (sym h))

-- a high member waits for those ahead of it; a low one for a round of the high ring for each low member ahead of it, and for those ahead of
-- the low place
unfoldable pub measure : ℕ → State → ℕ → ℕ
measure mask s m =
    cond (mask has m) (ahead s.high (live mask) m)
    (ahead s.low (in_low mask) m * (highs mask + 1) + ahead s.high (live mask) low_place)

-- a member's place is not the low one
pub not_low : (g : ℕ) → g < 10 → g ≡ low_place → ⊥
not_low g lt e = omega arith

module _ (mask requests : ℕ) (s : State) (m : ℕ) (hm : m < 10) (asked : (requests has m) ≡ true) where
  high_falls : (q : ℕ) → Next (asks_high mask requests s) s.high q → (mask has m) ≡ true → (l : ℕ)
      → (q ≡ m → ⊥) → measure mask (record { high = q; low = l }) m < measure mask s m
  unfolding measure
  high_falls q n h l ne =
      rw h (passed (live mask) (asks_high mask requests s) (high_sub mask requests s) n m (omega arith)
      (high_asks mask requests s m hm asked h) ne)

  place_falls : (q : ℕ) → Next (asks_high mask requests s) s.high q → (mask has m) ≡ false
      → (q ≡ low_place → ⊥) → measure mask (record { high = q; low = s.low }) m < measure mask s m
  unfolding measure
  place_falls q n h ne =
      rw h (lower_lt (ahead s.low (in_low mask) m) (highs mask + 1) (ahead s.high (live mask) low_place) (ahead q (live mask) low_place)
      (passed (live mask) (asks_high mask requests s) (high_sub mask requests s) n low_place (omega arith)
      (place_asks mask requests s m hm asked h) ne))

  handed_falls : (g : ℕ) → Next (asks_low mask requests s) s.low g → (mask has m) ≡ false
      → (g ≡ m → ⊥) → measure mask (record { high = low_place; low = g }) m < measure mask s m
  unfolding measure
  handed_falls g n h ne =
      let here = ahead_lt (live mask) low_place low_place (omega arith) (live_low mask (some_low mask m hm h)) in
      rw h (upper_lt (ahead s.low (in_low mask) m) (ahead g (in_low mask) m) (highs mask + 1) (ahead s.high (live mask) low_place)
      (ahead low_place (live mask) low_place)
      (passed (in_low mask) (asks_low mask requests s) (low_sub mask requests s) n m (omega arith) (low_asks mask requests s m hm asked h) ne)
      (omega (arith, here, live_count mask)))

  -- at each grant it falls, or the grant is the member's
  pub falls : ((step mask requests s).member ≡ m) ⊎ (measure mask (step mask requests s).after m < measure mask s m)
  falls =
      cases mask requests s
      (λ v. absurd (false≢true (sym (v.nobody m hm) ∙ asked)))
      (λ g v. rw v.told (tested (mask has m)
      (λ h. tested (eqb g m) (λ e. inl (eqb-true g m e)) (λ e. inr (high_falls g v.place h s.low (eqb-false g m e))))
      (λ h. inr (place_falls g v.place h (not_low g v.member)))))
      (λ g v. rw v.told (tested (mask has m)
      (λ h. inr (high_falls low_place v.place h g (λ e. not_low m hm (sym e))))
      (λ h. tested (eqb g m) (λ e. inl (eqb-true g m e)) (λ e. inr (handed_falls g v.handed h (eqb-false g m e))))))

-- it is below the bound, and one below it right after the member's own grant
module _ (mask m : ℕ) (hm : m < 10) where
  pub measure_lt : (s : State) → measure mask s m < least mask m
  unfolding measure
  measure_lt s =
      tested (mask has m)
      (λ h. rw h (omega (arith, ahead_lt (live mask) s.high m (omega arith) (high_live mask m hm h), live_count mask)))
      (λ h. rw (h, mul_comm (highs mask + 1) (lows mask)) (lt_of_lt_of_le
      (upper_lt (lows mask) (ahead s.low (in_low mask) m) (highs mask + 1) 0 (ahead s.high (live mask) low_place)
      (omega (arith, ahead_lt (in_low mask) s.low m (omega arith) (low_live mask m hm h), low_count mask))
      (omega (arith, ahead_lt (live mask) s.high low_place (omega arith) (live_low mask (some_low mask m hm h)), live_count mask)))
      (omega arith)))

  pub measure_last : (s : State) → ((mask has m) ≡ true → s.high ≡ m) → ((mask has m) ≡ false → (s.high ≡ low_place) × (s.low ≡ m))
      → measure mask s m + 1 ≡ least mask m
  unfolding measure
  measure_last s high low =
      tested (mask has m)
      (λ h. rw (h, high h) (all_ahead (live mask) m m (omega arith) (high_live mask m hm h) ∙ live_count mask))
      (λ h.
      let some = some_low mask m hm h in
      let behind = all_ahead (in_low mask) m m (omega arith) (low_live mask m hm h) ∙ low_count mask in
      let round = all_ahead (live mask) low_place low_place (omega arith) (live_low mask some) in
      rw (h, (low h).0, (low h).1, mul_comm (highs mask + 1) (lows mask))
      (upper_one (lows mask) (ahead m (in_low mask) m) (highs mask + 1) 0 (ahead low_place (live mask) low_place) behind
      (omega (arith, round, live_count mask, some)) refl ∙ omega arith))
