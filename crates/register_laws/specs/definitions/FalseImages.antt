-- Demand 1: 'a false register image': what refusals 11, 12 and 18 find in two images, by node, byte and bridge.
use Rattle.std.specs.Prelude.{◌≡◌, ◌⊎◌, true, ℕ, ◌*◌, ◌<◌, length, get_or}
use Rattle.std.specs.Int.Bits.{bit_and}
use Rattle.rack.specs.definitions.Tree.{Tree, bridge_count, device_count}
use Rattle.register_header.specs.definitions.Mask.{fixed_mask, reset_byte}
use Rattle.register_image.specs.definitions.Image.{Images, view}
use Rattle.bus_reset.specs.definitions.Held.{is_below, resets}

-- 01, 11: 'An image is not 64 times its node count long'
abbrev pub WrongLength : Tree → Images → Type 0
WrongLength t im =
    (length im.bridges ≡ 64 * bridge_count t → ⊥) ⊎ (length im.devices ≡ 64 * device_count t → ⊥)

-- 01, 12: 'A fixed bit differs from its reset value': one of the fixed bits of byte `at` of node i
pub record FixedDiffers (t : Tree) (im : Images) (i at : ℕ) : Type 0 where
  pub node : i < t.count
  pub byte : at < 64
  pub differs : bit_and (get_or (view t im i) at 0) (fixed_mask (t.node i) at) ≡ bit_and (reset_byte (t.node i) at) (fixed_mask (t.node i) at) → ⊥

-- 02, E5: 'below a set bit 6 all registers have reset values': bridge g has it set, node i is below it, and its byte `at` has another value
pub record HeldDiffers (t : Tree) (im : Images) (g i at : ℕ) : Type 0 where
  pub set : resets t im g ≡ true
  pub below : is_below t g i ≡ true
  pub node : i < t.count
  pub byte : at < 64
  pub differs : get_or (view t im i) at 0 ≡ reset_byte (t.node i) at → ⊥

-- no fixed bit differs, and no byte that is held
abbrev pub FixedRight : Tree → Images → Type 0
FixedRight t im = (i at : ℕ) → FixedDiffers t im i at → ⊥

abbrev pub HeldRight : Tree → Images → Type 0
HeldRight t im = (g i at : ℕ) → HeldDiffers t im g i at → ⊥
