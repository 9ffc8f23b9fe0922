-- The one question: does this agent of this bus claim this address, with these registers? And how far upwards the answer stays.
use Rattle.std.specs.Prelude.{ℕ, ◌-◌, Bool, true, false, not, ◌&&◌, ◌||◌, cond, Option, Some, None, get_or}
use Rattle.rack.specs.definitions.Tree.{Tree}
use Rattle.register_image.specs.definitions.Image.{Images}
use Rattle.rack.specs.declared.Range.{Range}
use Rattle.claim_window.specs.definitions.Range.{empty, within}
use Rattle.claim_window.specs.definitions.Cut.{cut_range}
use Rattle.claim_window.specs.definitions.Inside.{inside_memory, inside_io, memory_until, io_until}
use Rattle.claim_window.specs.declared.Area.{Area}
use Rattle.claim_window.specs.definitions.Area.{holds}
use Rattle.claim_agent.specs.declared.Space.{Space}
use Rattle.claim_agent.specs.declared.Space.TheVariants.{Memory, Io, Configuration}
use Rattle.claim_agent.specs.declared.BridgeClaims.{BridgeClaims}
use Rattle.claim_agent.specs.declared.DeviceClaims.{DeviceClaims}
use Rattle.claim_agent.specs.declared.Reached.{Reached}
use Rattle.claim_agent.specs.declared.Agent.{Agent}
use Rattle.claim_agent.specs.declared.Agent.TheVariants.{Primary, Secondary, Device, Host}
use Rattle.claim_agent.specs.definitions.Agent.{agent_of}

-- what stands where a device has no region
abbrev pub no_area : Area
no_area = record { io = false; range = empty }

-- a device's area by its number
abbrev pub area_at : DeviceClaims → ℕ → Area
area_at d r = get_or d.areas r no_area

-- an address in a device's regions of the I/O space, or of the memory space
abbrev pub in_regions : DeviceClaims → Bool → ℕ → Bool
in_regions d io a = holds (area_at d 0) io a || (holds (area_at d 1) io a || holds (area_at d 2) io a)

-- 01: 'On its primary bus a bridge claims addresses in its windows if command bit 0 (I/O) or 1 (memory) is set.' Type 1 is
-- 'claimed by each bridge on that bus with secondary ≤ bus ≤ subordinate', whatever the command bits
unfoldable pub primary_claims : BridgeClaims → Space → ℕ → Bool
primary_claims b Memory a = b.memory && inside_memory b.windows a
primary_claims b Io a = b.io && inside_io b.windows a
primary_claims b Configuration a = within b.buses a

-- 01: 'On its secondary bus it claims those outside if bit 2 is set; bits 0 and 1 play no part there'
unfoldable pub secondary_claims : BridgeClaims → Space → ℕ → Bool
secondary_claims b Memory a = b.master && not (inside_memory b.windows a)
secondary_claims b Io a = b.master && not (inside_io b.windows a)
secondary_claims b Configuration a = false

-- 01: 'A device claims its regions under its bits 0 and 1'
unfoldable pub device_claims : DeviceClaims → Space → ℕ → Bool
device_claims d Memory a = d.memory && in_regions d false a
device_claims d Io a = d.io && in_regions d true a
device_claims d Configuration a = false

-- 01: 'The host claims its memory', and no I/O
unfoldable pub host_claims : Range → Space → ℕ → Bool
host_claims h Memory a = within h a
host_claims h Io a = false
host_claims h Configuration a = false

unfoldable pub claims_of : Agent → Space → ℕ → Bool
claims_of (Primary b) space a = primary_claims b space a
claims_of (Secondary b) space a = secondary_claims b space a
claims_of (Device d) space a = device_claims d space a
claims_of (Host h) space a = host_claims h space a

-- agent g of a bus claims an address of a space
abbrev pub claims : Tree → Images → Space → ℕ → ℕ → ℕ → Bool
claims t im space bus g a = claims_of (agent_of t im bus g) space a

-- an end, at most e, up to which a claim at a stays the same
unfoldable pub windows_until : BridgeClaims → Space → ℕ → ℕ → ℕ
windows_until b Memory a e = memory_until b.windows a e
windows_until b Io a e = io_until b.windows a e
windows_until b Configuration a e = cut_range b.buses a e

unfoldable pub regions_until : DeviceClaims → ℕ → ℕ → ℕ
regions_until d a e =
    cut_range (area_at d 2).range a (cut_range (area_at d 1).range a (cut_range (area_at d 0).range a e))

unfoldable pub until_of : Agent → Space → ℕ → ℕ → ℕ
until_of (Primary b) space a e = windows_until b space a e
until_of (Secondary b) space a e = windows_until b space a e
until_of (Device d) space a e = regions_until d a e
until_of (Host h) space a e = cut_range h a e

-- 01: 'where two of them share an address, it is one claimant and the lower-numbered region is the one reached'; 3 where none is
unfoldable pub reached : DeviceClaims → Bool → ℕ → ℕ
reached d io a = cond (holds (area_at d 0) io a) 0 (cond (holds (area_at d 1) io a) 1 (cond (holds (area_at d 2) io a) 2 3))

-- the offset from that region's first address
unfoldable pub offset_in : DeviceClaims → Bool → ℕ → ℕ
offset_in d io a =
    cond (holds (area_at d 0) io a) (a - (area_at d 0).range.first)
    (cond (holds (area_at d 1) io a) (a - (area_at d 1).range.first)
    (cond (holds (area_at d 2) io a) (a - (area_at d 2).range.first) 0))

-- of what a search for it gives: the region's number, 3 for none, and the offset, 0 for none
abbrev pub region_number : Option Reached → ℕ
region_number None = 3
region_number (Some r) = r.region

abbrev pub offset_number : Option Reached → ℕ
offset_number None = 0
offset_number (Some r) = r.offset
