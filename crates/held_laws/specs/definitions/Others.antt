-- The agents that are not held in reset, and the check among them. 02, E5: 'The check counts no held node as claimant or driver; for the
-- other agents its pass still says at most one'.
use Rattle.std.specs.Prelude.{ℕ, ◌+◌, ◌-◌, Bool, not, ◌&&◌, cond, List, [], ◌∷◌, eqb}
use Rattle.rack.specs.definitions.Tree.{Tree, host, agents, buses}
use Rattle.register_image.specs.definitions.Image.{Images}
use Rattle.bus_reset.specs.definitions.Held.{is_held}
use Rattle.claim_agent.specs.declared.Space.{Space}
use Rattle.claim_agent.specs.declared.Space.TheVariants.{Memory, Io, Configuration}
use Rattle.claim_agent.specs.definitions.Space.{last_of}
use Rattle.claim_agent.specs.definitions.Claim.{claims}
use Rattle.claim_agent.specs.definitions.Claimants.{claimants_in, first_two}
use Rattle.check_search.specs.definitions.Report.{Report}
use Rattle.check_search.specs.definitions.Check.{first_in, first_from, shown, drivers_of, first_of}

-- a held agent: a held node, never the host
abbrev pub held_agent : Tree → Images → ℕ → Bool
held_agent t im g = not (eqb g host) && is_held t im g

-- 'the other agents': of a list of agents those that are not held
unfoldable pub others : Tree → Images → List ℕ → List ℕ
others t im [] = []
others t im (g ∷ gs) = cond (held_agent t im g) (others t im gs) (g ∷ others t im gs)

-- 'no held node as claimant': the claimants of a bus for a driver, in agent order, held nodes left out
abbrev pub other_claimants : Tree → Images → Space → ℕ → ℕ → ℕ → List ℕ
other_claimants t im space bus driver a = claimants_in (λ g. claims t im space bus g a) driver (others t im (agents t bus))

-- 'or driver': the drivers of a bus, held nodes left out
abbrev pub other_drivers : Tree → Images → ℕ → Space → List ℕ
other_drivers t im bus space = others t im (drivers_of t bus space)

-- the check with held nodes left out: every bus, space, value and driver is tried, in the order of `check`
unfoldable pub other_check : Tree → Images → Report
other_check t im =
    first_in
    (λ bus.
    first_in
    (λ space.
    first_from
    (λ a.
    first_in (λ driver. shown bus space a driver (first_two (other_claimants t im space bus driver a))) (other_drivers t im bus space))
    (last_of space + 1 - first_of space) (first_of space))
    (Configuration ∷ Memory ∷ Io ∷ []))
    (buses t)
