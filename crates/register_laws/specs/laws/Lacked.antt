-- In accepted images what a bridge's options lack is 0.
use Rattle.std.specs.Prelude.{◌≡◌, true, false, List, ℕ, ◌≤◌, ◌<◌, ltb, get_or}
use Rattle.std.proofs.Common.{arith}
use Rattle.std.specs.Int.Bits.{bit_and, and_zero_r}
use borrow.Author.Tests.{ltb-true, ltb-false, le-ltb}
use Rattle.rack.specs.declared.Node.{Node}
use Rattle.rack.specs.definitions.Node.{is_bridge}
use Rattle.rack.specs.definitions.Tree.{Tree}
use Rattle.rack.specs.laws.Bools.{tested}
use Rattle.register_header.specs.definitions.Options.{options_of, lacked}
use Rattle.register_header.specs.definitions.Tables.{write_table, reset_table}
use Rattle.register_header.specs.definitions.Mask.{write_mask, clear_mask, reset_byte}
use Rattle.register_header.proofs.Disjoint.{write_lt, clear_lt}
use Rattle.register_header.proofs.Lacked.{lacked_unused, lacked_lt, lacked_none}
use Rattle.register_image.specs.definitions.Image.{Images, view}
use Rattle.register_image.specs.definitions.Fixed.{byte_wrong}
use Rattle.bus_reset.specs.definitions.Agreement.{image_refusal}
use Rattle.register_laws.specs.laws.Accepted.{byte_right, accepted}
use Rattle.register_laws.specs.laws.Kept.{unused_zero}

module _ (n : Node) (bridge : is_bridge n.kind ≡ true) where
  -- a bridge's masks and reset value are its tables'
  write_is : (at : ℕ) → write_mask n at ≡ get_or (write_table n.kind) at 0
  unfolding write_mask
  write_is at = rw bridge

  reset_is : (at : ℕ) → 4 ≤ at → reset_byte n at ≡ get_or (reset_table n.kind) at 0
  unfolding reset_byte
  reset_is at h = rw (le-ltb at 4 h, bridge)

  -- a byte whose fixed bits are right
  pub lacked_zero : (part : List ℕ) (at : ℕ) → byte_wrong n part at ≡ false → bit_and (get_or part at 0) (lacked (options_of n.kind) at) ≡ 0
  unfolding clear_mask
  lacked_zero part at right =
      tested (ltb at 4)
      (λ q. rw (lacked_none (options_of n.kind) at (omega (arith, ltb-true at 4 q))) (and_zero_r (get_or part at 0)))
      (λ q.
      unused_zero (write_mask n at) (clear_mask n at) (write_lt n at) (clear_lt n at) (get_or part at 0) (reset_byte n at)
      (lacked (options_of n.kind) at) (lacked_lt (options_of n.kind) at)
      (rw (write_is at, reset_is at (ltb-false at 4 q)) (lacked_unused n.kind at)) (byte_right n part at right))

-- so it is in each bridge of accepted images
pub accepted_lacked : (t : Tree) (im : Images) → image_refusal t im ≡ 0
    → (i : ℕ) → i < t.count → is_bridge (t.node i).kind ≡ true
    → (at : ℕ) → at < 64 → bit_and (get_or (view t im i) at 0) (lacked (options_of (t.node i).kind) at) ≡ 0
accepted_lacked t im e i h bridge at ha =
    lacked_zero (t.node i) bridge (view t im i) at ((accepted t im e).1 i h at ha)
