-- What a bridge makes of the answer of the bus on its other side.
use Rattle.std.specs.Prelude.{ℕ, ◌+◌, Bool, true, false, not, ◌&&◌, cond, eqb, get_or}
use Rattle.rack.specs.definitions.Tree.{Tree, parent_of}
use Rattle.register_header.specs.declared.Side.{Side}
use Rattle.register_header.specs.declared.Side.TheVariants.{Primary, Secondary}
use Rattle.register_header.specs.declared.StatusBit.TheVariants.{SignaledTargetAbort, ReceivedTargetAbort}
use Rattle.register_header.specs.definitions.PciRegs.{SECONDARY_BUS, BRIDGE_CONTROL, BRIDGE_CTL_MASTER_ABORT}
use Rattle.register_image.specs.definitions.Image.{Images, Result, view, status_node, gives}
use Rattle.register_header.specs.definitions.Register.{bit_at}
use Rattle.claim_agent.specs.declared.Space.{Space}
use Rattle.claim_agent.specs.declared.Space.TheVariants.{Memory, Io, Configuration}
use Rattle.route_bus.specs.declared.Access.{Access}
use Rattle.route_bus.specs.declared.Outcome.{Outcome}
use Rattle.route_bus.specs.declared.Outcome.TheVariants.{Abort, Done, Target}
use Rattle.route_bus.specs.declared.End.{End}
use Rattle.route_bus.specs.declared.End.TheVariants.{Unclaimed}
use Rattle.route_bus.specs.declared.Route.{Route}
use Rattle.route_bus.specs.definitions.End.{if_unclaimed}
use Rattle.route_bus.specs.definitions.Look.{side_on}

-- a bridge takes an access up from the bus that it holds, and down from the bus that it sits on
abbrev pub goes_up : ℕ → ℕ → Bool
goes_up bus g = eqb g bus

unfoldable pub other_bus : Tree → ℕ → ℕ → ℕ
other_bus t bus g = cond (goes_up bus g) (parent_of t g) g

-- 01: 'Equal to secondary becomes Type 0 on its secondary bus; else it stays Type 1'
abbrev pub is_configuration : Space → Bool
is_configuration Memory = false
is_configuration Io = false
is_configuration Configuration = true

unfoldable pub turns_type0 : Tree → Images → Access → ℕ → ℕ → Bool
turns_type0 t im x bus g =
    is_configuration x.space && (not (goes_up bus g) && eqb x.address (get_or (view t im g) SECONDARY_BUS 0))

-- 01: 'A memory write that crossed a bridge is done'
abbrev pub is_posted : Space → Bool → Bool
is_posted Memory write = write
is_posted Io write = false
is_posted Configuration write = false

-- 01: 'bit 12 towards the later': the side away from the bus that the access came from
abbrev pub towards_later : ℕ → ℕ → Side
towards_later bus g = cond (goes_up bus g) Primary Secondary

-- 01: 'the last bridge, by bridge control bit 5: 0, done ..; 1, target abort: it sets bit 11 towards the initiator'
unfoldable pub last_outcome : Tree → Images → Access → ℕ → Outcome
last_outcome t im x g =
    cond (is_posted x.space x.write) Done
    (cond (bit_at (get_or (view t im g) BRIDGE_CONTROL 0) BRIDGE_CTL_MASTER_ABORT) Target Done)

-- 01: 'bit 11 towards the initiator': on the side of the bus that the access came from
unfoldable pub signalled : Tree → Images → ℕ → ℕ → Images
signalled t im bus g = status_node t im g (side_on bus g) SignaledTargetAbort

abbrev pub last_images : Tree → Images → ℕ → ℕ → Outcome → Images
last_images t im bus g Abort = im
last_images t im bus g Done = im
last_images t im bus g Target = signalled t im bus g

-- 01: 'each earlier bridge bit 12 towards the later and bit 11 towards the initiator'
unfoldable pub passed : Tree → Images → Access → ℕ → ℕ → Outcome → Result Outcome
passed t im x bus g Abort = gives (last_outcome t im x g) (last_images t im bus g (last_outcome t im x g))
passed t im x bus g Done = gives Done im
passed t im x bus g Target = gives Target (signalled t (status_node t im g (towards_later bus g) ReceivedTargetAbort) bus g)

-- the end of a route on its way back through bridge g, and the images that this leaves
abbrev pub passed_end : Tree → Images → Access → ℕ → ℕ → End → End
passed_end t im x bus g e = if_unclaimed (λ holder o. Unclaimed holder (passed t im x bus g o).answer) e e

abbrev pub passed_images : Tree → Images → Access → ℕ → ℕ → End → Images
passed_images t im x bus g e = if_unclaimed (λ holder o. (passed t im x bus g o).after) im e

-- one crossing more
unfoldable pub crossed : Tree → Images → Access → ℕ → ℕ → Route → Result Route
crossed t im x bus g r =
    gives (record { crossings = r.crossings + 1; end = passed_end t im x bus g r.end }) (passed_images t im x bus g r.end)
