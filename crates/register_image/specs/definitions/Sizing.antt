-- The size of a region of a node of a rack.
use Rattle.std.specs.Prelude.{ℕ, cond, ltb}
use Rattle.rack.specs.definitions.Node.{is_bridge, region_in}
use Rattle.rack.specs.definitions.Tree.{Tree}
use Rattle.register_header.specs.definitions.Sizing.{region_register, size_part}
use Rattle.register_image.specs.definitions.Image.{Images, view}

-- the size of a device's region; a bridge has none, nor has a missing node
unfoldable pub size_region : Tree → Images → ℕ → ℕ → ℕ
size_region t im i r =
    cond (ltb i t.count)
    (cond (is_bridge (t.node i).kind) 0
    (size_part (t.node i) (view t im i) (region_in (t.node i) r).kind (region_register r)))
    0
