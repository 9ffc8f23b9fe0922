-- A register write with all that it does: the node's own part, and what a set bit 6 does to the nodes below.
use Rattle.std.specs.Prelude.{ℕ, cond}
use Rattle.rack.specs.definitions.Tree.{Tree}
use Rattle.register_image.specs.definitions.Image.{Images, write_node}
use Rattle.register_image.specs.definitions.Reset.{reset_nodes}
use Rattle.bus_reset.specs.definitions.Held.{is_below, resets, is_held}

-- 02, E5: 'puts every node below back to reset registers'
abbrev pub reset_below : Tree → Images → ℕ → Images
reset_below t im b = reset_nodes t (is_below t b) im 0 t.count

-- 02, E5: 'Writing 1, directly too, puts every node below back': they are at reset wherever bit 6 is set after the write
unfoldable pub below_reset : Tree → Images → ℕ → Images
below_reset t im b = cond (resets t im b) (reset_below t im b) im

-- 02, E5: 'On a held node a direct write stores nothing'; configuration finds no held node
unfoldable pub store_node : Tree → Images → ℕ → ℕ → ℕ → ℕ → Images
store_node t im i register enables put =
    cond (is_held t im i) im (below_reset t (write_node t im i register enables put) i)
