-- What the open call answers: 20 where it is refused, and else what the step gives.
use Rattle.std.specs.Prelude.{◌≡◌, refl, ℕ, ◌<◌, Bool, true, false, not, ◌||◌, Ok, Err}
use Rattle.std.proofs.Common.{true≢false}
use borrow.Author.Tests.{leb-false}
use Rattle.arbiter.specs.declared.State.{State}
use Rattle.rack.specs.declared.refusal.Refusal.TheVariants.{BadArbitration}
use Rattle.arbiter.specs.definitions.Rings.{high_ring, low_ring}
use Rattle.arbiter.specs.definitions.Arbiter.{step, is_state, above_nine, refused, turn_of, arbitrate}

four : (a b c d : Bool) → (((a || b) || not c) || not d) ≡ false → (a ≡ false) × (b ≡ false) × (c ≡ true) × (d ≡ true)
four false false true true e = (refl, refl, refl, refl)
four false false true false e = absurd (true≢false e)
four false false false d e = absurd (true≢false e)
four false true c d e = absurd (true≢false e)
four true b c d e = absurd (true≢false e)

module _ (mask requests : ℕ) (s : State) where
  -- what holds where it is not refused
  pub not_refused : refused mask requests s ≡ false
      → (mask < 1024) × (requests < 1024) × (is_state (high_ring mask) s.high ≡ true) × (is_state (low_ring mask) s.low ≡ true)
  unfolding refused
  not_refused e =
      let k = four (above_nine mask) (above_nine requests) (is_state (high_ring mask) s.high) (is_state (low_ring mask) s.low) e in
      (leb-false 1024 mask k.0, leb-false 1024 requests k.1, k.2, k.3)

  pub is_refused : refused mask requests s ≡ true → arbitrate mask requests s ≡ Err BadArbitration
  unfolding arbitrate
  is_refused e = rw e

  pub is_answered : refused mask requests s ≡ false → arbitrate mask requests s ≡ Ok (turn_of (step mask requests s))
  unfolding arbitrate
  is_answered e = rw e
