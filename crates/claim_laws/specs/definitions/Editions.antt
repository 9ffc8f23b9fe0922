-- Request E11's claim laws in one place. Sentences are those of document 02; the proofs are in specs/laws/Proved.antt.
use Rattle.std.specs.Prelude.{◌≡◌, true, false, ◌||◌, List, ℕ, ◌^◌, ◌≤◌, ◌<◌, get_or}
use Rattle.std.specs.Int.Bits.{bit_and}
use Rattle.rack.specs.declared.Kind.TheVariants.{Bridge, OlderBridge}
use Rattle.rack.specs.declared.Node.{Node}
use Rattle.rack.specs.definitions.Node.{is_bridge}
use Rattle.rack.specs.definitions.Tree.{Tree}
use Rattle.register_header.specs.declared.Options.{Options}
use Rattle.register_header.specs.definitions.Options.{all_options, no_options, options_of, lacked}
use Rattle.register_image.specs.definitions.Image.{Images, view}
use Rattle.bus_reset.specs.definitions.Agreement.{image_refusal}
use Rattle.claim_window.specs.definitions.Window.{windows_of}
use Rattle.claim_window.specs.definitions.Inside.{in_vga_memory, in_vga_io, inside_memory, inside_io}
use Rattle.claim_agent.specs.declared.Space.{Space}
use Rattle.claim_agent.specs.declared.Space.TheVariants.{Memory, Io}
use Rattle.claim_agent.specs.definitions.Agent.{bridge_of}
use Rattle.claim_agent.specs.definitions.Claim.{primary_claims, secondary_claims, windows_until}
use Rattle.claim_agent.specs.definitions.WindowEnds.{windows_in}
use Rattle.claim_laws.specs.definitions.Granules.{memory_granules, prefetchable_granules, io_granules}
use Rattle.claim_laws.specs.definitions.Same.{SameBytes, SameButLacked}

-- 'The claim laws are shown over the set of options a bridge has, for both editions together': a bridge with these options and registers,
-- at an address
pub record ClaimLaws (o : Options) (part : List ℕ) (a : ℕ) : Type 0 where
  -- comparing granules and comparing full addresses say the same
  pub memory : inside_memory (windows_of o part) a
      ≡ (memory_granules o part a || (prefetchable_granules o part a || in_vga_memory (windows_of o part) a))
  pub io : inside_io (windows_of o part) a ≡ (io_granules o part a || in_vga_io (windows_of o part) a)
  -- on either side a claim stays the same from its address up to the end that is found with it, at most the one that was asked for
  pub down : (space : Space) (e : ℕ) → a ≤ e
      → (a ≤ windows_until (bridge_of o part) space a e) × (windows_until (bridge_of o part) space a e ≤ e)
      × ((x : ℕ) → a ≤ x → x ≤ windows_until (bridge_of o part) space a e
      → primary_claims (bridge_of o part) space x ≡ primary_claims (bridge_of o part) space a)
  pub up : (space : Space) (e : ℕ) → a ≤ e
      → (x : ℕ) → a ≤ x → x ≤ windows_until (bridge_of o part) space a e
      → secondary_claims (bridge_of o part) space x ≡ secondary_claims (bridge_of o part) space a
  -- status bits play no part
  pub status : (n : Node) → is_bridge n.kind ≡ true → (other : List ℕ) → SameBytes n part other → bridge_of o part ≡ bridge_of o other
  -- nor does what its options lack, whatever the bytes hold; where none of it is set, decoding is that of a bridge with all options
  pub lacks : (other : List ℕ) → SameButLacked o part other → windows_of o part ≡ windows_of o other
  pub plain : ((k : ℕ) → get_or part k 0 < 256) → ((k : ℕ) → k < 64 → bit_and (get_or part k 0) (lacked o k) ≡ 0)
      → windows_of o part ≡ windows_of all_options part

-- a bridge without one of the options, at an address
pub record Smaller (o : Options) (part : List ℕ) (a : ℕ) : Type 0 where
  -- 'I/O at 10000h or above is outside the window': it takes none down, and takes it up under bit 2
  pub io_outside : o.io32 ≡ false → 0x10000 ≤ a → inside_io (windows_of o part) a ≡ false
  pub io_not_down : o.io32 ≡ false → 0x10000 ≤ a → primary_claims (bridge_of o part) Io a ≡ false
  pub io_up : o.io32 ≡ false → 0x10000 ≤ a → secondary_claims (bridge_of o part) Io a ≡ (bridge_of o part).master
  -- so is memory at 4 GiB or above, since '28h to 2Fh are fixed 0'
  pub memory_outside : o.prefetchable64 ≡ false → 2 ^ 32 ≤ a → inside_memory (windows_of o part) a ≡ false
  pub memory_not_down : o.prefetchable64 ≡ false → 2 ^ 32 ≤ a → primary_claims (bridge_of o part) Memory a ≡ false
  pub memory_up : o.prefetchable64 ≡ false → 2 ^ 32 ≤ a → secondary_claims (bridge_of o part) Memory a ≡ (bridge_of o part).master
  -- 'VGA 16-bit decode .. is fixed 0'
  pub vga : o.vga16 ≡ false → (windows_of o part).vga16 ≡ false

pub record Editions : Type 0 where
  pub claims : (o : Options) (part : List ℕ) (a : ℕ) → ClaimLaws o part a
  pub smaller : (o : Options) (part : List ℕ) → ((k : ℕ) → get_or part k 0 < 256) → (a : ℕ) → Smaller o part a
  -- the editions are two sets of options
  pub bridge : options_of Bridge ≡ all_options
  pub older : options_of OlderBridge ≡ no_options
  -- in accepted images, which have nothing set that an edition lacks, every bridge of a rack is decoded as one with all options
  pub accepted : (t : Tree) (im : Images) → image_refusal t im ≡ 0 → (i : ℕ) → i < t.count → is_bridge (t.node i).kind ≡ true
      → ((k : ℕ) → get_or (view t im i) k 0 < 256) → windows_in t im i ≡ windows_of all_options (view t im i)
