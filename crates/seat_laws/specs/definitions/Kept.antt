-- What a seat leaves as it was. 02, E1: 'After any list of events by one seat other than 0, a register outside its grants differs at most in
-- status bits'; E5: 'A seat that may write a bridge's control register can now reset what is below it: there a register outside its grants
-- has, status bits aside, its old value or its reset value, and elsewhere E1's sentence holds'.
use Rattle.std.specs.Prelude.{◌≡◌, ◌⊎◌, Bool, true, false, List, ℕ, ◌-◌, ◌/◌, ◌<◌, length, get_or}
use Rattle.std.specs.Int.Bits.{bit_and}
use Rattle.rack.specs.declared.Kind.{Kind}
use Rattle.rack.specs.definitions.Tree.{Tree, parent_of}
use Rattle.seat.specs.definitions.Grants.{Acting, is_granted}
use Rattle.register_header.specs.definitions.PciRegs.{BRIDGE_CONTROL}
use Rattle.register_header.specs.definitions.Mask.{clear_mask}
use Rattle.register_image.specs.definitions.Image.{Images, image_of, view}
use Rattle.register_image.specs.definitions.Reset.{reset_part}
use Rattle.bus_reset.specs.definitions.Held.{above}

-- two bytes that differ in bits of a mask at most. A byte has no bits from 8 on, a number may
abbrev pub SameByte : ℕ → ℕ → ℕ → Type 0
SameByte mask a b = (bit_and a (255 - mask) ≡ bit_and b (255 - mask)) × (a / 256 ≡ b / 256)

-- two parts of node i agree in every register byte whose dword the seat is not granted at that node, but for status bits, which are those
-- that writing 1 clears
abbrev pub SameOutside : Tree → Acting → ℕ → List ℕ → List ℕ → Type 0
SameOutside t by i p q =
    (k : ℕ) → k < 64 → is_granted by i k ≡ false → SameByte (clear_mask (t.node i) k) (get_or p k 0) (get_or q k 0)

-- node i is below a bridge whose bridge control register the seat may write
abbrev pub can_reset : Tree → Acting → ℕ → Bool
can_reset t by i = above t (λ b. is_granted by b BRIDGE_CONTROL) (parent_of t i)

-- of a node all registers outside the seat's grants have their old values, or, if the seat can reset it, all have their reset values
abbrev pub NodeKept : Tree → Acting → Images → Images → ℕ → Type 0
NodeKept t by im im' i =
    SameOutside t by i (view t im i) (view t im' i)
    ⊎ ((can_reset t by i ≡ true) × SameOutside t by i (reset_part (t.node i)) (view t im' i))

pub record Kept (t : Tree) (by : Acting) (im im' : Images) : Type 0 where
  pub lengths : (k : Kind) → length (image_of im k) ≡ length (image_of im' k)
  pub nodes : (i : ℕ) → i < t.count → NodeKept t by im im' i
