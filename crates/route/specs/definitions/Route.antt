-- 01: 'What a bus does with an access and what a bridge does with it are each defined through the other.'
use Rattle.std.specs.Prelude.{ℕ, zero, suc, ◌+◌, Bool, false, cond, eqb, get_or}
use Rattle.rack.specs.definitions.Tree.{Tree, host, parent_of}
use Rattle.register_header.specs.declared.Side.TheVariants.{Primary}
use Rattle.register_header.specs.declared.StatusBit.TheVariants.{ReceivedTargetAbort}
use Rattle.register_header.specs.definitions.PciRegs.{COMMAND, COMMAND_MASTER}
use Rattle.register_image.specs.definitions.Image.{Images, Result, view, status_node, gives}
use Rattle.register_header.specs.definitions.Register.{bit_at}
use Rattle.route_bus.specs.declared.Access.{Access}
use Rattle.route_bus.specs.declared.Outcome.{Outcome}
use Rattle.route_bus.specs.declared.Outcome.TheVariants.{Abort, Done, Target}
use Rattle.route_bus.specs.declared.End.{End}
use Rattle.route_bus.specs.declared.End.TheVariants.{Silent}
use Rattle.route_bus.specs.declared.Route.{Route}
use Rattle.route_bus.specs.declared.Sight.{Sight}
use Rattle.route_bus.specs.declared.Sight.TheVariants.{Ends, Crosses}
use Rattle.route_bus.specs.definitions.End.{if_unclaimed, ends}
use Rattle.route_bus.specs.definitions.Look.{look}
use Rattle.route_bus.specs.definitions.Cross.{other_bus, turns_type0, crossed}

-- the end that was seen, or the route of the bridge
abbrev pub follow : (ℕ → Images → Result Route) → Sight → Images → Result Route
follow cross (Ends e) im = ends e im
follow cross (Crosses g) im = cross g im

-- a number that is spent; never met, since there are fewer crossings than it allows
abbrev pub spent : Images → Result Route
spent im = ends Silent im

-- the number falls by one at each step, two for a crossing
unfoldable mutual
  pub bus_step : ℕ → Tree → Images → Access → ℕ → ℕ → Bool → Result Route
  bus_step zero t im x bus driver type0 = spent im
  bus_step (suc n) t im x bus driver type0 =
      follow (λ g v. bridge_step n t v x bus g) (look t im x bus driver type0).answer (look t im x bus driver type0).after

  pub bridge_step : ℕ → Tree → Images → Access → ℕ → ℕ → Result Route
  bridge_step zero t im x bus g = spent im
  bridge_step (suc n) t im x bus g =
      crossed t (bus_step n t im x (other_bus t bus g) g (turns_type0 t im x bus g)).after x bus g
      (bus_step n t im x (other_bus t bus g) g (turns_type0 t im x bus g)).answer

-- the crossings that are possible from a bus on, by the depths that the table stores: all the way up, and down to the deepest bus
abbrev pub possible : Tree → ℕ → ℕ
possible t bus = t.depth_of bus + t.deepest

abbrev pub from : Tree → Images → Access → ℕ → ℕ → Bool → Result Route
from t im x bus driver type0 = bus_step (possible t bus + possible t bus + 1) t im x bus driver type0

-- 01: 'Configuration starts at the host. Bus 0 is Type 0 on the root bus; others are Type 1'
unfoldable pub configure : Tree → Images → Access → Result Route
configure t im x = from t im x host host (eqb x.address 0)

-- 01: 'and an initiating device bit 12'
abbrev pub received : Tree → Images → ℕ → Outcome → Images
received t im i Abort = im
received t im i Done = im
received t im i Target = status_node t im i Primary ReceivedTargetAbort

unfoldable pub returned : Tree → Images → ℕ → End → Images
returned t im i e = if_unclaimed (λ holder o. received t im i o) im e

abbrev pub started : Tree → ℕ → Result Route → Result Route
started t i o = gives o.answer (returned t o.after i o.answer.end)

-- a memory or I/O access starts on the bus its initiator sits on
abbrev pub driven : Tree → Images → Access → ℕ → Result Route
driven t im x i = started t i (from t im x (parent_of t i) i false)

-- 01: 'A device with command bit 2 clear drives nothing'
abbrev pub drives : Tree → Images → ℕ → Bool
drives t im i = bit_at (get_or (view t im i) COMMAND 0) COMMAND_MASTER

-- a memory or I/O access of the host or of a device
unfoldable pub access : Tree → Images → Access → ℕ → Result Route
access t im x i =
    cond (eqb i host) (from t im x host host false)
    (cond (drives t im i) (driven t im x i) (ends Silent im))
