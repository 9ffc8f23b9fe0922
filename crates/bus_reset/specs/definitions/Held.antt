-- Bit 6 of bridge control, and who is held in reset by it.
use Rattle.std.specs.Prelude.{ℕ, zero, suc, ◌+◌, Bool, false, not, ◌&&◌, ◌||◌, eqb, get_or}
use Rattle.rack.specs.definitions.Tree.{Tree, host, parent_of}
use Rattle.register_header.specs.definitions.PciRegs.{BRIDGE_CONTROL, BRIDGE_CTL_BUS_RESET}
use Rattle.register_header.specs.definitions.Register.{bit_at}
use Rattle.register_image.specs.definitions.Image.{Images, view}

-- whether a bridge above the nodes of a bus passes a test: its holder, or the next one up, at most `steps` of them
unfoldable pub above_in : Tree → (ℕ → Bool) → ℕ → ℕ → Bool
above_in t test zero bus = false
above_in t test (suc steps) bus = not (eqb bus host) && (test bus || above_in t test steps (parent_of t bus))

-- a parent is an earlier node, so the way up from bus i has at most i + 1 steps, as in `depth`
abbrev pub above : Tree → (ℕ → Bool) → ℕ → Bool
above t test bus = above_in t test (bus + 1) bus

-- 02, E5: 'every node below': bridge b is above node i
abbrev pub is_below : Tree → ℕ → ℕ → Bool
is_below t b i = above t (eqb b) (parent_of t i)

-- 02, E5: 'what bit 6 of bridge control does': bridge g holds what is below it in reset
unfoldable pub resets : Tree → Images → ℕ → Bool
resets t im g = bit_at (get_or (view t im g) BRIDGE_CONTROL 0) BRIDGE_CTL_BUS_RESET

-- a held bus: its holder has bit 6 set, or a bridge above it has
abbrev pub held_bus : Tree → Images → ℕ → Bool
held_bus t im bus = above t (resets t im) bus

-- a held node: one on a held bus, so a bridge somewhere above it has bit 6 set
abbrev pub is_held : Tree → Images → ℕ → Bool
is_held t im i = held_bus t im (parent_of t i)
