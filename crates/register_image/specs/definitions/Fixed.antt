-- Refusals 11 and 12 of two images.
use Rattle.std.specs.Prelude.{ℕ, ◌*◌, Bool, not, ◌&&◌, List, eqb, length, get_or}
use Rattle.std.specs.Int.Bits.{bit_and}
use Rattle.rack.specs.declared.Node.{Node}
use Rattle.rack.specs.definitions.Count.{some}
use Rattle.rack.specs.definitions.Tree.{Tree, bridge_count, device_count}
use Rattle.register_header.specs.definitions.Mask.{fixed_mask, reset_byte}
use Rattle.register_image.specs.definitions.Image.{Images, view}

-- 01, 11: 'An image is not 64 times its node count long'
unfoldable pub lengths_wrong : Tree → Images → Bool
lengths_wrong t im =
    not (eqb (length im.bridges) (64 * bridge_count t) && eqb (length im.devices) (64 * device_count t))

-- 01, 12: 'A fixed bit differs from its reset value': of a byte, at a place, in a part, in a node of the rack, in any
abbrev pub value_wrong : Node → ℕ → ℕ → Bool
value_wrong n at value = not (eqb (bit_and value (fixed_mask n at)) (bit_and (reset_byte n at) (fixed_mask n at)))

unfoldable pub byte_wrong : Node → List ℕ → ℕ → Bool
byte_wrong n part at = value_wrong n at (get_or part at 0)

abbrev pub part_wrong : Node → List ℕ → Bool
part_wrong n part = some (byte_wrong n part) 64

abbrev pub node_wrong : Tree → Images → ℕ → Bool
node_wrong t im i = part_wrong (t.node i) (view t im i)

abbrev pub fixed_wrong : Tree → Images → Bool
fixed_wrong t im = some (node_wrong t im) t.count
