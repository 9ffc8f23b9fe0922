-- The region of a device that an address reaches: the lowest that holds it.
use Rattle.std.specs.Prelude.{◌≡◌, Bool}
use Rattle.std.proofs.Math.Bool.{true, false}
use Prim.Native.Nat.{ℕ, zero, suc, ◌<◌}
use Rattle.std.proofs.Common.{arith}
use Rattle.rack.specs.laws.Bools.{tested, neither}
use Rattle.claim_window.specs.definitions.Area.{holds}
use Rattle.claim_agent.specs.declared.DeviceClaims.{DeviceClaims}
use Rattle.claim_agent.specs.definitions.Claim.{area_at, in_regions, reached, offset_in}
use Rattle.claim_laws.specs.definitions.Reach.{Reach}

module _ (d : DeviceClaims) (io : Bool) (a : ℕ) where
  -- an address in a device's regions reaches the lowest that holds it, at the offset from its first address
  pub reach : in_regions d io a ≡ true → Reach d io a (reached d io a)
  unfolding reached offset_in
  reach e =
      tested (holds (area_at d 0) io a)
      (λ p. rw p (record { number = omega arith; here = p; lower = λ k h. absurd (omega arith); offset = rw p }))
      (λ p.
      tested (holds (area_at d 1) io a)
      (λ q. rw (p, q) (record { number = omega arith; here = q; lower = first p; offset = rw (p, q) }))
      (λ q.
      let s : holds (area_at d 2) io a ≡ true = rw (p, q) at e in
      rw (p, q, s) (record { number = omega arith; here = s; lower = two p q; offset = rw (p, q, s) })))
    where
      first : holds (area_at d 0) io a ≡ false → (k : ℕ) → k < 1 → holds (area_at d k) io a ≡ false
      first p zero h = p
      first p (suc k) h = absurd (omega arith)

      two : holds (area_at d 0) io a ≡ false → holds (area_at d 1) io a ≡ false → (k : ℕ) → k < 2
          → holds (area_at d k) io a ≡ false
      two p q zero h = p
      two p q (suc zero) h = q
      two p q (suc (suc k)) h = absurd (omega arith)

  -- any other reaches none
  pub reach_none : in_regions d io a ≡ false → reached d io a ≡ 3
  unfolding reached
  reach_none e =
      let s = neither (holds (area_at d 0) io a) _ e in
      let r = neither (holds (area_at d 1) io a) _ s.1 in
      rw (s.0, r.0, r.1)
