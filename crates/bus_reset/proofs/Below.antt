-- Bit 6 as the code reads it.
use mathlib.Core.Path.{◌≡◌}
use mathlib.Core.Bool.{Bool}
use mathlib.Core.List.{List}
use Prim.Native.Nat.{ℕ}
use lib.ListN.{get_or}
use Rattle.rack.specs.definitions.Tree.{Tree, parent_of}
use Rattle.register_header.specs.definitions.PciRegs.{BRIDGE_CONTROL, BRIDGE_CTL_BUS_RESET}
use Rattle.register_header.specs.definitions.Register.{bit_at}
use Rattle.register_image.specs.definitions.Image.{Images, view}
use Rattle.bus_reset.specs.definitions.Held.{resets, held_bus, is_held}

pub bit_reset : (t : Tree) (im : Images) (g : ℕ) {part : List ℕ} {control : ℕ} {r : Bool} → part ≡ view t im g
    → control ≡ get_or part BRIDGE_CONTROL 0 → r ≡ bit_at control BRIDGE_CTL_BUS_RESET → r ≡ resets t im g
unfolding resets
bit_reset t im g e ec er = rw (er, ec, e)

pub held_on : (t : Tree) (im : Images) (i bus : ℕ) {r : Bool} → bus ≡ parent_of t i → r ≡ held_bus t im bus → r ≡ is_held t im i
held_on t im i bus e r = rw (← e) r
