-- Registers that are the same, status bits aside, or what a bridge has no option for, or the bit that resets what is below it.
use Rattle.std.specs.Prelude.{◌≡◌, cond, List, ℕ, ◌-◌, ◌/◌, ◌<◌, eqb, get_or, length}
use Rattle.std.specs.Int.Bits.{bit_and}
use Rattle.rack.specs.declared.Kind.{Kind}
use Rattle.rack.specs.declared.Node.{Node}
use Rattle.register_header.specs.declared.Options.{Options}
use Rattle.register_header.specs.definitions.Options.{lacked}
use Rattle.register_header.specs.definitions.PciRegs.{BRIDGE_CONTROL, BRIDGE_CTL_BUS_RESET}
use Rattle.register_header.specs.definitions.Mask.{clear_mask}
use Rattle.rack.specs.definitions.Tree.{Tree}
use Rattle.register_image.specs.definitions.Image.{Images, image_of, view}

-- two parts that differ in bits of a mask and in no other. A byte has no bits from 8 on, a number may
pub record SameOutside (mask : ℕ → ℕ) (p q : List ℕ) : Type 0 where
  pub bits : (k : ℕ) → bit_and (get_or p k 0) (255 - mask k) ≡ bit_and (get_or q k 0) (255 - mask k)
  pub above : (k : ℕ) → get_or p k 0 / 256 ≡ get_or q k 0 / 256

-- two parts of a node that differ in bits that writing 1 clears
abbrev pub SameBytes : Node → List ℕ → List ℕ → Type 0
SameBytes n p q = SameOutside (clear_mask n) p q

-- two parts of a bridge that differ in what its options lack
abbrev pub SameButLacked : Options → List ℕ → List ℕ → Type 0
SameButLacked o p q = SameOutside (lacked o) p q

-- two parts of a bridge that differ in bit 6 of bridge control
abbrev pub SameButReset : List ℕ → List ℕ → Type 0
SameButReset p q = SameOutside (λ at. cond (eqb at BRIDGE_CONTROL) BRIDGE_CTL_BUS_RESET 0) p q

-- two pairs of images that differ in status bits alone: both lengths, and every node's part but for bits that writing 1 clears
pub record SameButStatus (t : Tree) (im im' : Images) : Type 0 where
  pub lengths : (k : Kind) → length (image_of im k) ≡ length (image_of im' k)
  pub views : (i : ℕ) → i < t.count → SameBytes (t.node i) (view t im i) (view t im' i)
