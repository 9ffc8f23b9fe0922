use Rattle.std.proofs.Common.{◌≡◌, refl, Bool, true, false, not, ◌&&◌, ◌||◌}
use mathlib.Core.Bool.{beq}
use Rattle.claim_window.specs.definitions.Area.{holds}
use Rattle.claim_window.proofs.Area.holds_address.Goals as goal

alike : (x y : Bool) → beq x y ≡ (x && y || not x && not y)
alike true true = refl
alike true false = refl
alike false true = refl
alike false false = refl

pub returns : goal.returns
unfolding holds
returns c = rw (alike, c.within_range.ensures)
