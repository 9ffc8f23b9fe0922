-- Both ends of a window or of a region, as the trainer prints them in every exercise.
use Rattle.std.specs.Prelude.{ℕ, cond, ltb, eqb}
use Rattle.rack.specs.definitions.Node.{is_bridge}
use Rattle.rack.specs.definitions.Tree.{Tree}
use Rattle.register_header.specs.definitions.Options.{options_of}
use Rattle.register_image.specs.definitions.Image.{Images, view}
use Rattle.rack.specs.declared.Range.{Range}
use Rattle.claim_window.specs.declared.Windows.{Windows}
use Rattle.claim_window.specs.definitions.Range.{empty}
use Rattle.claim_window.specs.definitions.Window.{windows_of}
use Rattle.claim_agent.specs.definitions.Agent.{area_in}

-- window 0 is memory, 1 prefetchable, 2 I/O; there is no other
unfoldable pub window_in : Windows → ℕ → Range
window_in w k = cond (eqb k 0) w.memory (cond (eqb k 1) w.prefetchable (cond (eqb k 2) w.io empty))

-- the windows of bridge i of a rack, with the options of its kind
abbrev pub windows_in : Tree → Images → ℕ → Windows
windows_in t im i = windows_of (options_of (t.node i).kind) (view t im i)

-- the ends of window k of a bridge, or of region k of a device
unfoldable pub window_ends : Tree → Images → ℕ → ℕ → Range
window_ends t im i k =
    cond (ltb k 3)
    (cond (is_bridge (t.node i).kind) (window_in (windows_in t im i) k) (area_in (t.node i) (view t im i) k).range)
    empty
