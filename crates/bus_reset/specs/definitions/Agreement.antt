-- Refusals 11, 12 and 18 of two images.
use Rattle.std.specs.Prelude.{ℕ, Bool, ◌&&◌, cond}
use Rattle.rack.specs.definitions.Count.{some}
use Rattle.rack.specs.definitions.Tree.{Tree}
use Rattle.register_image.specs.definitions.Image.{Images, view}
use Rattle.register_image.specs.definitions.Fixed.{lengths_wrong, fixed_wrong}
use Rattle.register_image.specs.definitions.Reset.{is_changed}
use Rattle.bus_reset.specs.definitions.Held.{is_held}

-- 02, E5: 'Every saved or lent image must agree: below a set bit 6 all registers have reset values': a held node that differs from reset
abbrev pub node_disagrees : Tree → Images → ℕ → Bool
node_disagrees t im i = is_held t im i && is_changed (t.node i) (view t im i)

abbrev pub disagrees : Tree → Images → Bool
disagrees t im = some (node_disagrees t im) t.count

-- the number of the refusal, 0 where there is none. 02, E5: 'calls give it straight after 12'
unfoldable pub image_refusal : Tree → Images → ℕ
image_refusal t im = cond (lengths_wrong t im) 11 (cond (fixed_wrong t im) 12 (cond (disagrees t im) 18 0))
