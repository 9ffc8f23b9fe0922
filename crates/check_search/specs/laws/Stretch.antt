-- How far every agent's claim holds, and how many claim.
use Rattle.std.specs.Prelude.{ℕ, zero, suc, ◌+◌, cond, List, get_or}
use Rattle.claim_agent.specs.declared.Space.{Space}
use Rattle.claim_agent.specs.declared.Agent.{Agent}
use Rattle.claim_agent.specs.definitions.Claim.{claims_of, until_of}
use Rattle.check_search.specs.definitions.Gathered.{nobody}

-- an end, at most e, up to which the claims of the k agents from j on stay what they are at a
unfoldable pub until_all : List Agent → Space → ℕ → ℕ → ℕ → ℕ → ℕ
until_all gs space a zero j e = e
until_all gs space a (suc k) j e = until_all gs space a k (j + 1) (until_of (get_or gs j nobody) space a e)

-- how many of the k agents from j on claim
unfoldable pub claiming : List Agent → Space → ℕ → ℕ → ℕ → ℕ
claiming gs space a zero j = 0
claiming gs space a (suc k) j = cond (claims_of (get_or gs j nobody) space a) 1 0 + claiming gs space a k (j + 1)
