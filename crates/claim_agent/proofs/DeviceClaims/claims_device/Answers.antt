use Rattle.claim_agent.specs.definitions.Claim.{device_claims}
use Rattle.claim_agent.proofs.DeviceClaims.claims_device.Goals as goal

pub returns-in-Memory : goal.returns-in-Memory
unfolding device_claims
returns-in-Memory c = simp (c.in-Memory.is, c.in_regions.ensures)

pub returns-in-Io : goal.returns-in-Io
unfolding device_claims
returns-in-Io c = simp (c.in-Io.is, c.in_regions-in-Io.ensures)

pub returns-in-Configuration : goal.returns-in-Configuration
unfolding device_claims
returns-in-Configuration c = simp c.in-Configuration.is
