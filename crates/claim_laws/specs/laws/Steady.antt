-- A claim stays the same from an address up to the end that is computed for it.
use Rattle.std.specs.Prelude.{◌≡◌, Bool, true, false, ◌&&◌, ◌||◌, ℕ, ◌≤◌}
use Rattle.std.proofs.Math.Bool.{not}
use Rattle.rack.specs.definitions.Tree.{Tree}
use Rattle.register_image.specs.definitions.Image.{Images}
use Rattle.rack.specs.declared.Range.{Range}
use Rattle.claim_window.specs.declared.Windows.{Windows}
use Rattle.claim_window.specs.definitions.Range.{within}
use Rattle.claim_window.specs.definitions.Cut.{cut_range, cut_low}
use Rattle.claim_window.specs.definitions.Inside.{isa_cut, in_vga_io, vga_memory, inside_memory, inside_io, memory_until, io_until}
use Rattle.claim_window.specs.definitions.Area.{holds}
use Rattle.claim_agent.specs.declared.Space.{Space}
use Rattle.claim_agent.specs.declared.Space.TheVariants.{Memory, Io, Configuration}
use Rattle.claim_agent.specs.declared.BridgeClaims.{BridgeClaims}
use Rattle.claim_agent.specs.declared.DeviceClaims.{DeviceClaims}
use Rattle.claim_agent.specs.declared.Agent.{Agent}
use Rattle.claim_agent.specs.declared.Agent.TheVariants.{Primary, Secondary, Device, Host}
use Rattle.claim_agent.specs.definitions.Agent.{agent_of}
use Rattle.claim_agent.specs.definitions.Claim.{area_at, in_regions, primary_claims, secondary_claims, device_claims, host_claims, claims_of, claims, windows_until, regions_until, until_of, reached}
use Rattle.claim_laws.specs.laws.Kept.{Kept, kept_map, kept_two, kept_both, range_kept}
use Rattle.claim_laws.specs.laws.LowRules.{low_rules}

-- from a to e an answer stays what it is at a
pub record Steady (v : ℕ → Bool) (a e : ℕ) : Type 0 where
  pub onward : a ≤ e
  pub same : (x : ℕ) → a ≤ x → x ≤ e → v x ≡ v a

-- what a bridge's windows hold of the memory space
pub memory_kept : (w : Windows) (a e : ℕ) → Kept (inside_memory w) a e (memory_until w a e)
unfolding inside_memory memory_until
memory_kept w a e =
    kept_two ◌||◌ (range_kept w.memory a e)
    (kept_two ◌||◌ (range_kept w.prefetchable a (cut_range w.memory a e))
    (kept_map (λ t. w.vga && t) (range_kept vga_memory a (cut_range w.prefetchable a (cut_range w.memory a e)))))

-- and of the I/O space
pub io_kept : (w : Windows) (a e : ℕ) → Kept (inside_io w) a e (io_until w a e)
unfolding inside_io io_until
io_kept w a e =
    let e1 = cut_range w.io a e in
    let s = cut_low w.isa w.vga a e1 in
    let r = low_rules w.isa w.vga a e1 in
    let k : Kept (within w.io) a e e1 = range_kept w.io a e in
    let i : Kept (isa_cut w) a e1 s = record { low = r.low; high = r.high; same = r.isas } in
    let v : Kept (in_vga_io w) a e1 s = record { low = r.low; high = r.high; same = r.vgas w.vga16 } in
    kept_both ◌||◌ (kept_two (λ p q. p && not q) k i) (kept_two (λ p q. q) k v)

-- a bridge on its primary bus, and on its secondary bus
pub primary_kept : (b : BridgeClaims) (space : Space) (a e : ℕ) → Kept (primary_claims b space) a e (windows_until b space a e)
unfolding primary_claims windows_until
primary_kept b Memory a e = kept_map (λ t. b.memory && t) (memory_kept b.windows a e)
primary_kept b Io a e = kept_map (λ t. b.io && t) (io_kept b.windows a e)
primary_kept b Configuration a e = range_kept b.buses a e

pub secondary_kept : (b : BridgeClaims) (space : Space) (a e : ℕ) → Kept (secondary_claims b space) a e (windows_until b space a e)
unfolding secondary_claims windows_until
secondary_kept b Memory a e = kept_map (λ t. b.master && not t) (memory_kept b.windows a e)
secondary_kept b Io a e = kept_map (λ t. b.master && not t) (io_kept b.windows a e)
secondary_kept b Configuration a e = kept_map (λ t. false) (range_kept b.buses a e)

-- each of a device's three areas
module _ (d : DeviceClaims) (io : Bool) (a e : ℕ) where
  e1 : ℕ
  e1 = cut_range (area_at d 0).range a e

  e2 : ℕ
  e2 = cut_range (area_at d 1).range a e1

  first_kept : Kept (holds (area_at d 0) io) a e e1
  unfolding holds e1
  first_kept = kept_map (λ t. (io && (area_at d 0).io || not io && not (area_at d 0).io) && t) (range_kept (area_at d 0).range a e)

  second_kept : Kept (holds (area_at d 1) io) a e1 e2
  unfolding holds e2
  second_kept = kept_map (λ t. (io && (area_at d 1).io || not io && not (area_at d 1).io) && t) (range_kept (area_at d 1).range a e1)

  third_kept : Kept (holds (area_at d 2) io) a e2 (regions_until d a e)
  unfolding holds regions_until e1 e2
  third_kept = kept_map (λ t. (io && (area_at d 2).io || not io && not (area_at d 2).io) && t) (range_kept (area_at d 2).range a e2)

  -- an address of its regions
  pub regions_kept : Kept (in_regions d io) a e (regions_until d a e)
  regions_kept = kept_two ◌||◌ first_kept (kept_two ◌||◌ second_kept third_kept)

  -- the region that is reached stays the same too
  pub reached_steady : (x : ℕ) → a ≤ x → x ≤ regions_until d a e → reached d io x ≡ reached d io a
  unfolding reached
  reached_steady x h l =
      let k2 = kept_two (λ p q. p) second_kept third_kept in
      let k1 = kept_two (λ p q. p) first_kept k2 in
      rw (k1.same x h l, k2.same x h l, third_kept.same x h l)

-- a device, and the host
device_kept : (d : DeviceClaims) (space : Space) (a e : ℕ) → Kept (device_claims d space) a e (regions_until d a e)
unfolding device_claims
device_kept d Memory a e = kept_map (λ t. d.memory && t) (regions_kept d false a e)
device_kept d Io a e = kept_map (λ t. d.io && t) (regions_kept d true a e)
device_kept d Configuration a e = kept_map (λ t. false) (regions_kept d false a e)

host_kept : (h : Range) (space : Space) (a e : ℕ) → Kept (host_claims h space) a e (cut_range h a e)
unfolding host_claims
host_kept h Memory a e = range_kept h a e
host_kept h Io a e = kept_map (λ t. false) (range_kept h a e)
host_kept h Configuration a e = kept_map (λ t. false) (range_kept h a e)

-- every kind of agent
pub agent_kept : (g : Agent) (space : Space) (a e : ℕ) → Kept (claims_of g space) a e (until_of g space a e)
unfolding claims_of until_of
agent_kept (Primary b) space a e = primary_kept b space a e
agent_kept (Secondary b) space a e = secondary_kept b space a e
agent_kept (Device d) space a e = device_kept d space a e
agent_kept (Host h) space a e = host_kept h space a e

-- every agent's claim stays the same up to its end
pub steady : (g : Agent) (space : Space) (a e : ℕ) → a ≤ e → Steady (claims_of g space) a (until_of g space a e)
steady g space a e h = let k = agent_kept g space a e in record { onward = k.low h; same = k.same }

-- which is at most the end that was asked for
pub until_le : (g : Agent) (space : Space) (a e : ℕ) → until_of g space a e ≤ e
until_le g space a e = (agent_kept g space a e).high

-- the same of an agent of a bus
pub claims_steady : (t : Tree) (im : Images) (space : Space) (bus g a e : ℕ) → a ≤ e
    → Steady (claims t im space bus g) a (until_of (agent_of t im bus g) space a e)
claims_steady t im space bus g a e = steady (agent_of t im bus g) space a e
