use Rattle.claim_agent.specs.definitions.Claim.{windows_until}
use Rattle.claim_agent.proofs.BridgeClaims.windows_until.Goals as goal

pub returns-in-Memory : goal.returns-in-Memory
unfolding windows_until
returns-in-Memory c = simp (c.in-Memory.is, c.memory_until.ensures)

pub returns-in-Io : goal.returns-in-Io
unfolding windows_until
returns-in-Io c = simp (c.in-Io.is, c.io_until.ensures)

pub returns-in-Configuration : goal.returns-in-Configuration
unfolding windows_until
returns-in-Configuration c = simp (c.in-Configuration.is, c.cut_range.ensures)
