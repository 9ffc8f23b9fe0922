-- The agents of a bus in an array, each decoded once: what `check_sweep` works on.
use Rattle.std.specs.Prelude.{ℕ, ◌<◌, ◌≡◌, List, get_or, length}
use Rattle.rack.specs.definitions.Tree.{Tree, agents}
use Rattle.register_image.specs.definitions.Image.{Images}
use Rattle.claim_window.specs.definitions.Range.{empty}
use Rattle.claim_agent.specs.declared.Agent.{Agent}
use Rattle.claim_agent.specs.declared.Agent.TheVariants.{Host}
use Rattle.claim_agent.specs.definitions.Agent.{agent_of}

-- an agent that claims nothing
abbrev pub nobody : Agent
nobody = Host empty

-- a list that holds the agents of a bus, decoded, in their order
abbrev pub Gathered : Tree → Images → ℕ → List Agent → Type 0
Gathered t im bus gs =
    (j : ℕ) → j < length (agents t bus) → get_or gs j nobody ≡ agent_of t im bus (get_or (agents t bus) j 0)
