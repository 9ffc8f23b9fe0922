-- What a bus does with an access.
use Rattle.std.specs.Prelude.{ℕ, ◌+◌, ◌-◌, ◌*◌, ◌/◌, ◌%◌, Bool, true, false, ◌&&◌, cond, eqb}
use Rattle.rack.specs.definitions.Node.{is_bridge}
use Rattle.rack.specs.definitions.Tree.{Tree, host, parent_of}
use Rattle.register_header.specs.declared.Side.{Side}
use Rattle.register_header.specs.declared.Side.TheVariants.{Primary, Secondary}
use Rattle.register_header.specs.declared.StatusBit.TheVariants.{ReceivedMasterAbort}
use Rattle.register_image.specs.definitions.Image.{Images, Result, view, status_node, gives}
use Rattle.bus_reset.specs.definitions.Held.{held_bus}
use Rattle.claim_agent.specs.declared.Space.{Space}
use Rattle.claim_agent.specs.declared.Space.TheVariants.{Memory, Io, Configuration}
use Rattle.claim_agent.specs.declared.Claimants.{Claimants}
use Rattle.claim_agent.specs.declared.Claimants.TheVariants.{Nobody, One, Two}
use Rattle.claim_agent.specs.definitions.Agent.{device_of}
use Rattle.claim_agent.specs.definitions.Claim.{reached, offset_in}
use Rattle.claim_agent.specs.definitions.Claimants.{claimants, first_two, next_from}
use Rattle.route_bus.specs.declared.Access.{Access}
use Rattle.route_bus.specs.declared.Outcome.TheVariants.{Abort}
use Rattle.route_bus.specs.declared.End.TheVariants.{Node, Owner, Host, Unclaimed, Clash, Special}
use Rattle.route_bus.specs.declared.Sight.{Sight}
use Rattle.route_bus.specs.declared.Sight.TheVariants.{Ends, Crosses}

abbrev pub is_io : Space → Bool
is_io Memory = false
is_io Io = true
is_io Configuration = false

-- the side on which an agent meets a bus: a bridge its secondary on the bus that it holds
abbrev pub side_on : ℕ → ℕ → Side
side_on bus g = cond (eqb g bus) Secondary Primary

-- 01: 'An unclaimed access sets bit 13 in the status of its driver on that side (..; the host none)'
unfoldable pub master_abort : Tree → Images → ℕ → ℕ → Images
master_abort t im bus driver =
    cond (eqb driver host) im (status_node t im driver (side_on bus driver) ReceivedMasterAbort)

unfoldable pub unclaimed : Tree → Images → ℕ → ℕ → Result Sight
unclaimed t im bus driver = gives (Ends (Unclaimed bus Abort)) (master_abort t im bus driver)

-- 01: 'one claimant owns it or, if a bridge, takes it across'; the offset from the region's or the host's first address
unfoldable pub owned : Tree → Images → Access → ℕ → Sight
owned t im x g =
    cond (eqb g host) (Ends (Host (x.address - t.host_memory.first)))
    (cond (is_bridge (t.node g).kind) (Crosses g)
    (Ends
    (Owner g (reached (device_of (t.node g) (view t im g)) (is_io x.space) x.address)
    (offset_in (device_of (t.node g) (view t im g)) (is_io x.space) x.address))))

-- 01: 'With no claimant the access is unclaimed, with two or more it clashes'. A clash sets nothing
unfoldable pub claimed : Tree → Images → Access → ℕ → ℕ → Claimants → Result Sight
claimed t im x bus driver Nobody = unclaimed t im bus driver
claimed t im x bus driver (One g) = gives (owned t im x g) im
claimed t im x bus driver (Two y z) = gives (Ends (Clash bus y z)) im

-- 01: 'Type 0 reaches the node of that device number, function 0'; 255 where there is none
unfoldable pub target : Tree → ℕ → ℕ → ℕ
target t bus devfn =
    cond (eqb (devfn % 8) 0)
    (next_from (λ i. eqb (parent_of t i) bus && eqb (t.node i).device (devfn / 8)) 0 t.count)
    255

-- 02, E5: 'configuration finds nobody on a held bus'
unfoldable pub found : Tree → Images → ℕ → ℕ → ℕ
found t im bus devfn = cond (held_bus t im bus) 255 (target t bus devfn)

-- 01: 'which owns it; otherwise .. it is unclaimed'. Its register is read or written where the event is run
unfoldable pub selects : Tree → Images → Access → ℕ → ℕ → Result Sight
selects t im x bus driver =
    cond (eqb (found t im bus x.devfn) 255) (unclaimed t im bus driver)
    (gives (Ends (Node (found t im bus x.devfn))) im)

-- 02, E4: 'A configuration write to device 31, function 7, register 0 is one'
abbrev pub is_special_cycle : Access → Bool
is_special_cycle x = x.write && (eqb x.devfn (31 * 8 + 7) && eqb x.register 0)

-- 02, E4: 'on the root bus for bus 0 and otherwise on the secondary bus where the access would turn into Type 0. It ends as `special` ..
-- and sets no master-abort bit'. E5: on a held bus 'a special cycle still ends as one'
unfoldable pub direct : Tree → Images → Access → ℕ → ℕ → Result Sight
direct t im x bus driver = cond (is_special_cycle x) (gives (Ends (Special bus)) im) (selects t im x bus driver)

-- a bus, for an access that is Type 0 configuration there or is claimed
unfoldable pub look : Tree → Images → Access → ℕ → ℕ → Bool → Result Sight
look t im x bus driver type0 =
    cond type0 (direct t im x bus driver)
    (claimed t im x bus driver (first_two (claimants t im x.space bus driver x.address)))
