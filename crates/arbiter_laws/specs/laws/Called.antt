-- The theorems over the open call: when it refuses, what it grants, and that the state it gives is accepted again.
use Rattle.std.specs.Prelude.{◌≡◌, refl, ℕ, zero, suc, ◌+◌, ◌*◌, ◌/◌, ◌%◌, ◌^◌, ◌≤◌, ◌<◌, false, cond, List, [], ◌∷◌}
use Rattle.std.proofs.Common.{sym, ap, subst, mod-lt, arith, pow_pos, shr_lt}
use Rattle.std.proofs.Math.Bool.{or-true}
use Rattle.std.proofs.Math.Pow.{split}
use borrow.Author.Tests.{eqb-false, leb-false, lt-leb}
use Rattle.rack.specs.definitions.Refused.{number_of}
use Rattle.arbiter.specs.declared.State.{State}
use Rattle.arbiter.specs.definitions.Rings.{◌has◌, is_in, none, high_ring, low_ring}
use Rattle.arbiter.specs.definitions.Arbiter.{first, step, is_state, above_nine, refused, arbitrate}
use Rattle.rack.specs.laws.Bools.{tested}
use Rattle.arbiter.specs.laws.Search.{named_or}
use Rattle.arbiter.specs.laws.Sets.{has_none}
use Rattle.arbiter.specs.laws.Answers.{not_refused, is_refused, is_answered}
use Rattle.arbiter_laws.specs.definitions.Fair.{grants, Keeps, Within, bound}
use Rattle.arbiter_laws.specs.definitions.Calls.{Accepted, Sets, member_of, state_after, answers, members_in}
use Rattle.arbiter_laws.specs.laws.Granted.{high_stays, low_stays}
use Rattle.arbiter_laws.specs.laws.Fairness.{fair}

-- a set of 16 bits is below 1024 exactly where it has no bit above 9
pub no_bit : (set k : ℕ) → above_nine set ≡ false → 10 ≤ k → (set has k) ≡ false
no_bit set k e h = has_none 10 set k (leb-false 1024 set e) h

top_clear : (x w : ℕ) → x < 2 ^ (1 + w) → (x has w) ≡ false → x < 2 ^ w
top_clear x w h e =
    let odd : x / 2 ^ w % 2 ≡ 1 → ⊥ = eqb-false (x / 2 ^ w % 2) 1 e in
    let none_left : x / 2 ^ w ≡ 0 = omega (arith, odd, shr_lt 1 w h) in
    omega (arith, split x w, ap (λ (y : ℕ). y * 2 ^ w) none_left, mod-lt x (pow_pos w))

below : (set n : ℕ) → set < 2 ^ (n + 10) → ((k : ℕ) → 10 ≤ k → k < n + 10 → (set has k) ≡ false) → set < 1024
below set zero h bits = h
below set (suc n) h bits =
    below set n (top_clear set (n + 10) (subst (λ (w : ℕ). set < 2 ^ w) (omega arith) h) (bits (n + 10) (omega arith) (omega arith)))
    (λ k ge lt. bits k ge (omega arith))

pub no_bits : (set : ℕ) → set < 2 ^ 16 → ((k : ℕ) → 10 ≤ k → k < 16 → (set has k) ≡ false) → above_nine set ≡ false
no_bits set fits bits = lt-leb 1024 set (below set 6 fits bits)

module _ (mask requests : ℕ) (s : State) where
  -- 20 where a bit above 9 is set or a state names a place its ring lacks, and nowhere else
  pub accepted_is : refused mask requests s ≡ false → Accepted mask s × (requests < 1024)
  accepted_is e = let k = not_refused mask requests s e in (record { few = k.0; high = k.2; low = k.3 }, k.1)

  pub is_accepted : Accepted mask s → requests < 1024 → refused mask requests s ≡ false
  unfolding refused
  is_accepted a r = rw (lt-leb 1024 mask a.few, lt-leb 1024 requests r, a.high, a.low)

  -- the refusal's number: 20 where it is refused, and none elsewhere
  pub refusal_is : number_of (arbitrate mask requests s) ≡ cond (refused mask requests s) 20 0
  refusal_is =
      tested (refused mask requests s) (λ k. rw (is_refused mask requests s k, k)) (λ k. rw (is_answered mask requests s k, k))

  -- what an accepted call gives is what the step gives
  pub member_is : refused mask requests s ≡ false → member_of (arbitrate mask requests s) ≡ (step mask requests s).member
  unfolding member_of
  member_is e = rw (is_answered mask requests s e) (named_or (step mask requests s).member)

  pub state_is : refused mask requests s ≡ false → state_after s (arbitrate mask requests s) ≡ (step mask requests s).after
  unfolding state_after
  state_is e = rw (is_answered mask requests s e)

  -- accepted states stay accepted
  pub stays : Accepted mask s → Accepted mask (step mask requests s).after
  stays a = record { few = a.few; high = high_stays mask requests s a.high; low = low_stays mask requests s a.low }

-- the first state is one for every mask
pub first_accepted : (mask : ℕ) → mask < 1024 → Accepted mask first
unfolding is_state
first_accepted mask h = record { few = h; high = or-true (is_in none (high_ring mask)); low = or-true (is_in none (low_ring mask)) }

-- a caller's run is the run
pub answers_grant : (mask : ℕ) (s : State) (list : List ℕ) → Accepted mask s → Sets list → members_in (answers mask s list) ≡ grants mask s list
unfolding members_in answers grants
answers_grant mask s [] a sets = refl
answers_grant mask s (requests ∷ rest) a sets =
    let ok = is_accepted mask requests s a sets.0 in
    let ih = answers_grant mask (step mask requests s).after rest (stays mask requests s a) sets.1 in
    rw (member_is mask requests s ok, state_is mask requests s ok, ih)

-- and so fair, over the calls
pub calls_fair : (mask m : ℕ) → m < 10 → (s : State) (list : List ℕ) → Accepted mask s → Sets list → Keeps m list
    → Within (bound mask m) m (members_in (answers mask s list))
calls_fair mask m hm s list a sets keeps =
    subst (λ (gs : List ℕ). Within (bound mask m) m gs) (sym (answers_grant mask s list a sets)) (fair mask m hm list s keeps)
