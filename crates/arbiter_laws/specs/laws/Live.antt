-- The places of each ring that can request, how many there are, and that whoever requests is one of them.
use Rattle.std.specs.Prelude.{◌≡◌, ℕ, ◌+◌, ◌<◌, min, Bool, true, false, not, cond, [], ◌∷◌, eqb, length}
use Rattle.std.proofs.Common.{sym, ap, ◌∙◌, ⊎_elim, arith, length-append, eq-eqb, ne_eqb, eqb-true}
use Rattle.std.proofs.lemmas.Bool.{false≢true, eqb-false}
use Rattle.std.proofs.Math.Bool.{and-eq-true_iff}
use Rattle.arbiter.specs.declared.State.{State}
use Rattle.arbiter.specs.definitions.Rings.{◌has◌, is_in, high_members, low_place, none, high_ring, low_ring}
use Rattle.arbiter.specs.definitions.Arbiter.{next_low, place_requests}
use Rattle.rack.specs.laws.Bools.{tested}
use Rattle.arbiter.specs.laws.Search.{keep_same}
use Rattle.arbiter.specs.laws.Places.{low_or_member, high_member, low_member, high_others, low_others, high_kept, low_kept}
use Rattle.arbiter_laws.specs.definitions.Fair.{highs, lows}
use Rattle.arbiter_laws.specs.laws.Count.{count, count_one, count_none}
use Rattle.arbiter_laws.specs.laws.Order.{ahead_lt}
use Rattle.arbiter_laws.specs.laws.Steps.{asks_low, asks_high, low_idle, low_asked}

module _ (mask : ℕ) where
  -- a low member can, a high one too, and the low place where there are low members
  abbrev pub in_low : ℕ → Bool
  in_low p = is_in p (low_ring mask)

  abbrev pub live : ℕ → Bool
  live p = cond (eqb p low_place) (not (eqb (lows mask) 0)) (is_in p (high_ring mask))

  pub low_count : count in_low 0 11 ≡ lows mask
  low_count = ap length (sym (low_kept mask))

  high_count : count (λ p. is_in p (high_ring mask)) 0 11 ≡ highs mask + 1
  high_count = ap length (sym (high_kept mask)) ∙ length-append (high_members mask) (low_place ∷ [])

  live_member : (p : ℕ) → (p ≡ low_place → ⊥) → live p ≡ is_in p (high_ring mask)
  live_member p ne = rw (ne_eqb p low_place ne)

  pub live_low : 0 < lows mask → live low_place ≡ true
  live_low h = ap not (ne_eqb (lows mask) 0 (λ e. omega arith))

  pub live_count : count live 0 11 ≡ highs mask + min 1 (lows mask)
  live_count =
      tested (eqb (lows mask) 0)
      (λ k. let one = count_one live (λ p. is_in p (high_ring mask)) low_place 11 0 (omega arith) (omega arith)
      (ap not k) (high_others mask low_place (omega arith)) (λ p ge lt ne. live_member p ne) in
      omega (arith, one, high_count, eqb-true (lows mask) 0 k))
      (λ k. let some : lows mask ≡ 0 → ⊥ = eqb-false (lows mask) 0 k in
      let all : count live 0 11 ≡ count (λ p. is_in p (high_ring mask)) 0 11 =
      ap length (keep_same live (λ p. is_in p (high_ring mask)) 11 0 (λ p ge lt.
      tested (eqb p low_place) (λ e. rw (e, k, eqb-true p low_place e) (sym (high_others mask low_place (omega arith)))) (λ e. rw e))) in
      omega (arith, all, high_count, some))

  module _ (m : ℕ) (hm : m < 10) where
    pub high_live : (mask has m) ≡ true → live m ≡ true
    high_live h = live_member m (λ e. omega arith) ∙ high_member mask m hm ∙ h

    pub low_live : (mask has m) ≡ false → in_low m ≡ true
    low_live h = low_member mask m hm ∙ ap not h

    -- a low member is counted
    pub some_low : (mask has m) ≡ false → 0 < lows mask
    some_low h = omega (arith, ahead_lt in_low 0 m (omega arith) (low_live h), low_count)

  module _ (requests : ℕ) (s : State) where
    abbrev low : ℕ
    low = next_low mask requests s

    -- whoever requests can
    pub low_sub : (r : ℕ) → r < 11 → asks_low mask requests s r ≡ true → in_low r ≡ true
    low_sub r lt e = ((and-eq-true_iff (in_low r) (requests has r)).0 e).0

    pub high_sub : (r : ℕ) → r < 11 → asks_high mask requests s r ≡ true → live r ≡ true
    high_sub r lt e =
        let k = (and-eq-true_iff (is_in r (high_ring mask)) (place_requests requests low r)).0 e in
        tested (eqb r low_place)
        (λ j. let found = low_asked mask requests s (λ n. false≢true (sym (rw (j, eq-eqb low none n)) ∙ k.1)) in
        rw j (live_low (some_low low found.0 found.1)))
        (λ j. rw j k.0)

    module _ (m : ℕ) (hm : m < 10) (asked : (requests has m) ≡ true) where
      pub high_asks : (mask has m) ≡ true → asks_high mask requests s m ≡ true
      high_asks h = rw (high_member mask m hm, h, ne_eqb m low_place (λ e. omega arith)) asked

      pub low_asks : (mask has m) ≡ false → asks_low mask requests s m ≡ true
      low_asks h = rw (low_member mask m hm, h) asked

      pub place_asks : (mask has m) ≡ false → asks_high mask requests s low_place ≡ true
      place_asks h =
          rw (high_others mask low_place (omega arith), ne_eqb low none (λ e. false≢true (sym (low_idle mask requests s e m hm h) ∙ asked)))

    -- where everybody requests, whoever can does
    module _ (all : (i : ℕ) → i < 10 → (requests has i) ≡ true) where
      pub low_all : (r : ℕ) → r < 11 → in_low r ≡ true → asks_low mask requests s r ≡ true
      low_all r lt e =
          ⊎_elim
          (λ (k : r ≡ low_place). absurd (false≢true (sym (low_others mask r (omega arith)) ∙ e)))
          (λ (l : r < 10). rw (e, all r l))
          (low_or_member r lt)

      -- there are low members, so one is next
      some_next : 0 < lows mask → low ≡ none → ⊥
      some_next h e =
          let none_in = count_none in_low 11 0 (λ p ge lt. ⊎_elim
          (λ (k : p ≡ low_place). low_others mask p (omega arith))
          (λ (l : p < 10). tested (mask has p) (λ k. low_member mask p l ∙ ap not k)
          (λ k. absurd (false≢true (sym (low_idle mask requests s e p l k) ∙ all p l))))
          (low_or_member p lt)) in
          omega (arith, none_in, low_count)

      pub high_all : (r : ℕ) → r < 11 → live r ≡ true → asks_high mask requests s r ≡ true
      high_all r lt e =
          ⊎_elim
          (λ (k : r ≡ low_place).
          let some : 0 < lows mask =
          tested (eqb (lows mask) 0) (λ j. absurd (false≢true (sym (rw (eq-eqb r low_place k, j)) ∙ e)))
          (λ j. let ne : lows mask ≡ 0 → ⊥ = eqb-false (lows mask) 0 j in omega (arith, ne)) in
          rw (high_others mask r (omega arith), eq-eqb r low_place k, ne_eqb low none (some_next some)))
          (λ (l : r < 10). rw (sym (live_member r (λ k. omega arith)) ∙ e, ne_eqb r low_place (λ k. omega arith)) (all r l))
          (low_or_member r lt)
