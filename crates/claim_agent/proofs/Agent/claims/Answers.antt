use Rattle.claim_agent.specs.definitions.Claim.{claims_of}
use Rattle.claim_agent.proofs.Agent.claims.Goals as goal

pub returns-in-Primary : goal.returns-in-Primary
unfolding claims_of
returns-in-Primary c = simp (c.in-Primary.is, c.claims_primary.ensures)

pub returns-in-Secondary : goal.returns-in-Secondary
unfolding claims_of
returns-in-Secondary c = simp (c.in-Secondary.is, c.claims_secondary.ensures)

pub returns-in-Device : goal.returns-in-Device
unfolding claims_of
returns-in-Device c = simp (c.in-Device.is, c.claims_device.ensures)

pub returns-in-Host : goal.returns-in-Host
unfolding claims_of
returns-in-Host c = simp (c.in-Host.is, c.host_claims.ensures)
