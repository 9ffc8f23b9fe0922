-- The way of an access, bus by bus, from one claimant to the next.
use Rattle.std.specs.Prelude.{◌≡◌, Bool, true, false, cond, ◌⊎◌, List, [], ◌∷◌, ℕ, ◌-◌, ◌/◌, ◌%◌, ◌≤◌, ◌<◌, ◌^◌, eqb, length}
use Rattle.rack.specs.definitions.Node.{is_bridge}
use Rattle.rack.specs.definitions.Tree.{Tree, host, parent_of}
use Rattle.register_image.specs.definitions.Image.{Images, Result, view}
use Rattle.bus_reset.specs.definitions.Held.{held_bus}
use Rattle.claim_agent.specs.declared.Space.TheVariants.{Memory, Io, Configuration}
use Rattle.claim_agent.specs.definitions.Agent.{device_of}
use Rattle.claim_agent.specs.definitions.Claim.{area_at}
use Rattle.claim_laws.specs.definitions.Reach.{Reach}
use Rattle.claim_laws.specs.definitions.Same.{SameButStatus}
use Rattle.route_bus.specs.declared.Access.{Access}
use Rattle.route_bus.specs.declared.End.{End}
use Rattle.route_bus.specs.declared.End.TheVariants.{Node, Owner, Host, Unclaimed, Clash, Special, Silent}
use Rattle.route_bus.specs.declared.Route.{Route}
use Rattle.route_bus.specs.definitions.Look.{is_io, is_special_cycle}
use Rattle.route.specs.definitions.Route.{drives}
use Rattle.route_laws.specs.definitions.Path.{claimants_on, Path}

-- 01: 'An access starts on the bus its initiator sits on, .. one of the host on the root bus'
unfoldable pub start_of : Tree → ℕ → ℕ
start_of t i = cond (eqb i host) host (parent_of t i)

-- an accepted initiator: the host or a device
abbrev pub Initiator : Tree → ℕ → Type 0
Initiator t i = (i ≡ host) ⊎ ((i < t.count) × (is_bridge (t.node i).kind ≡ false))

-- an address of the memory or of the I/O space
abbrev pub Address : Access → Type 0
Address x = ((x.space ≡ Memory) × (x.address < 2 ^ 64)) ⊎ ((x.space ≡ Io) × (x.address < 2 ^ 32))

-- a bus number
abbrev pub BusNumber : Access → Type 0
BusNumber x = (x.space ≡ Configuration) × (x.address ≤ 255)

-- 01: 'A device with command bit 2 clear drives nothing'
pub record Silenced (t : Tree) (im : Images) (i : ℕ) (e : End) : Type 0 where
  pub device : i < t.count
  pub off : drives t im i ≡ false
  pub end : e ≡ Silent

-- node g is the one that Type 0 configuration reaches on a bus: that device number, function 0. 02, E5: 'configuration finds nobody on
-- a held bus'
pub record Selected (t : Tree) (im : Images) (bus devfn g : ℕ) : Type 0 where
  pub free : held_bus t im bus ≡ false
  pub node : g < t.count
  pub on_bus_lem : parent_of t g ≡ bus
  pub number : (t.node g).device ≡ devfn / 8
  pub function : devfn % 8 ≡ 0

-- there is none
abbrev pub NoneSelected : Tree → Images → ℕ → ℕ → Type 0
NoneSelected t im bus devfn = (g : ℕ) → Selected t im bus devfn g → ⊥

module _ (t : Tree) (im : Images) (x : Access) where
  -- the last bus of an access, by its end e and the images u that it leaves: nobody claims what is unclaimed there, the host alone what
  -- reaches its memory, that node alone what it owns, in the lowest region that holds the address, at the offset from that region's
  -- base; Type 0 ends at the one node of that device number, function 0. Never a clash; what finds its owner changes no image.
  -- 02, E4: 'From then on an access in a passed rack may also end this way': a special cycle as Type 0, and it changes none either
  abbrev pub Last : ℕ → ℕ → Bool → End → Images → Type 0
  Last bus driver true (Node g) u = Selected t im bus x.devfn g × (u ≡ im)
  Last bus driver true (Owner g r o) u = ⊥
  Last bus driver true (Host o) u = ⊥
  Last bus driver true (Unclaimed k o) u = (k ≡ bus) × NoneSelected t im bus x.devfn × (is_special_cycle x ≡ false)
  Last bus driver true (Clash k y z) u = ⊥
  Last bus driver true (Special k) u = (k ≡ bus) × (is_special_cycle x ≡ true) × (u ≡ im)
  Last bus driver true Silent u = ⊥
  Last bus driver false (Node g) u = ⊥
  Last bus driver false (Owner g r o) u =
      (claimants_on t im x bus driver ≡ g ∷ [])
      × Reach (device_of (t.node g) (view t im g)) (is_io x.space) x.address r
      × (o ≡ x.address - (area_at (device_of (t.node g) (view t im g)) r).range.first) × (u ≡ im)
  Last bus driver false (Host o) u = (claimants_on t im x bus driver ≡ host ∷ []) × (o ≡ x.address - t.host_memory.first) × (u ≡ im)
  Last bus driver false (Unclaimed k o) u = (k ≡ bus) × (claimants_on t im x bus driver ≡ [])
  Last bus driver false (Clash k y z) u = ⊥
  Last bus driver false (Special k) u = ⊥
  Last bus driver false Silent u = ⊥

  -- the bridges that take an access on, from a bus to its last: on every bus that it passes one claims, the bridge that takes it on
  abbrev pub Way : ℕ → ℕ → Bool → List ℕ → End → Images → Type 0
  Way bus driver type0 gs e u =
      (last : ℕ) × (by : ℕ) × (type0' : Bool) × Path t im x bus driver type0 gs last by type0' × Last last by type0' e u

  -- an access that has such a way, with as many crossings; the images that it leaves differ from those it found in status bits at most
  abbrev pub Went : ℕ → ℕ → Bool → Result Route → Type 0
  Went bus driver type0 o =
      (gs : List ℕ) × (length gs ≡ o.answer.crossings) × Way bus driver type0 gs o.answer.end o.after
      × SameButStatus t im o.after
