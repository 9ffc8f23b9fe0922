-- The region of a device that an address reaches: the lowest that holds it.
use Rattle.std.specs.Prelude.{◌≡◌, Bool, true, false, ℕ, ◌-◌, ◌<◌}
use Rattle.claim_window.specs.definitions.Area.{holds}
use Rattle.claim_agent.specs.declared.DeviceClaims.{DeviceClaims}
use Rattle.claim_agent.specs.definitions.Claim.{area_at, offset_in}

-- region r is reached at a
pub record Reach (d : DeviceClaims) (io : Bool) (a r : ℕ) : Type 0 where
  pub number : r < 3
  pub here : holds (area_at d r) io a ≡ true
  pub lower : (k : ℕ) → k < r → holds (area_at d k) io a ≡ false
  pub offset : offset_in d io a ≡ a - (area_at d r).range.first
