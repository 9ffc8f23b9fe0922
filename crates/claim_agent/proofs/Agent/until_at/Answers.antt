use mathlib.Core.Path.{◌≡◌}
use mathlib.Core.Logic.{◌⊎◌, inl, inr}
use Prim.Native.Nat.{ℕ}
use Rattle.claim_agent.specs.declared.Space.{Space}
use Rattle.claim_agent.specs.declared.BridgeClaims.{BridgeClaims}
use Rattle.claim_agent.specs.declared.Agent.{Agent}
use Rattle.claim_agent.specs.declared.Agent.TheVariants.{Primary, Secondary}
use Rattle.claim_agent.specs.definitions.Claim.{until_of, windows_until}
use Rattle.claim_agent.proofs.Agent.until_at.Goals as goal

either_side : (g : Agent) (b : BridgeClaims) (space : Space) (a e : ℕ) {r : ℕ} → (g ≡ Primary b) ⊎ (g ≡ Secondary b)
    → r ≡ windows_until b space a e → r ≡ until_of g space a e
unfolding until_of
either_side g b space a e (inl p) er = rw p er
either_side g b space a e (inr p) er = rw p er

pub returns-in-Primary : goal.returns-in-Primary
returns-in-Primary c = either_side _ _ _ _ _ c.in-Primary.is c.windows_until.ensures

pub returns-in-Device : goal.returns-in-Device
unfolding until_of
returns-in-Device c = simp (c.in-Device.is, c.regions_until.ensures)

pub returns-in-Host : goal.returns-in-Host
unfolding until_of
returns-in-Host c = simp (c.in-Host.is, c.cut_range.ensures)
