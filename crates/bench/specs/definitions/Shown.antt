-- What a measurement shows of an answer, so that both sides can be compared.
use Rattle.std.specs.Prelude.{ℕ, ◌+◌, ◌*◌, ◌/◌, false, cond, Ok, Err, eqb}
use Rattle.rack.specs.definitions.Tree.{Tree}
use Rattle.rack.specs.definitions.Refusal.{rack_refusal}
use Rattle.register_image.specs.definitions.Image.{Images}
use Rattle.claim_agent.specs.declared.Space.TheVariants as space
use Rattle.route_bus.specs.declared.Access.{Access}
use Rattle.route_bus.specs.declared.End.{End}
use Rattle.route_bus.specs.declared.End.TheVariants.{Node, Owner, Host, Unclaimed, Clash, Special, Silent}
use Rattle.check_search.specs.definitions.Report.{Report}
use Rattle.check_search.specs.definitions.Check.{check}

-- crossings, plus 1000 times the owner's number plus one where there is an owner
unfoldable pub shown_of : ℕ → End → ℕ
shown_of crossings (Node g) = crossings
shown_of crossings (Owner g r o) = crossings + 1000 * (g + 1)
shown_of crossings (Host o) = crossings
shown_of crossings (Unclaimed k o) = crossings
shown_of crossings (Clash k y z) = crossings
shown_of crossings (Special k) = crossings
shown_of crossings Silent = crossings

-- a memory read
abbrev pub reading : ℕ → Access
reading address =
    record { space = space.Memory; write = false; address = address; devfn = 0; register = 0; enables = 0; «data» = 0 }

-- half of a fault's value, plus one, so that it fits; 0 for a pass
unfoldable pub value_of : Report → ℕ
value_of (Ok _) = 0
value_of (Err f) = f.value / 2 + 1

abbrev pub nothing : ℕ
nothing = 0xFFFFFFFFFFFFFFFF

-- the last of `rounds` checks of an accepted rack
abbrev pub last_of : Tree → Images → ℕ → ℕ
last_of t im rounds = cond (eqb rounds 0) nothing (value_of (check t im))

unfoldable pub check_rounds : Tree → Images → ℕ → ℕ
check_rounds t im rounds = cond (eqb (rack_refusal t) 0) (last_of t im rounds) nothing
