use Rattle.claim_agent.specs.definitions.Claim.{secondary_claims}
use Rattle.claim_agent.proofs.BridgeClaims.claims_secondary.Goals as goal

pub returns-in-Memory : goal.returns-in-Memory
unfolding secondary_claims
returns-in-Memory c = simp (c.in-Memory.is, c.inside_memory.ensures)

pub returns-in-Io : goal.returns-in-Io
unfolding secondary_claims
returns-in-Io c = simp (c.in-Io.is, c.inside_io.ensures)

pub returns-in-Configuration : goal.returns-in-Configuration
unfolding secondary_claims
returns-in-Configuration c = simp c.in-Configuration.is
