use Rattle.claim_agent.specs.definitions.Claim.{primary_claims}
use Rattle.claim_agent.proofs.BridgeClaims.claims_primary.Goals as goal

pub returns-in-Memory : goal.returns-in-Memory
unfolding primary_claims
returns-in-Memory c = simp (c.in-Memory.is, c.inside_memory.ensures)

pub returns-in-Io : goal.returns-in-Io
unfolding primary_claims
returns-in-Io c = simp (c.in-Io.is, c.inside_io.ensures)

pub returns-in-Configuration : goal.returns-in-Configuration
unfolding primary_claims
returns-in-Configuration c = simp (c.in-Configuration.is, c.within_range.ensures)
