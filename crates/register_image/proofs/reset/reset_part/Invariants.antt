use mathlib.Core.List.{◌++◌}
use mathlib.Core.Path.{◌≡◌}
use Prim.Native.Nat.{◌-◌, ◌≤◌}
use lib.ListN.{length, take}
use Rattle.register_image.specs.definitions.Reset.{reset_from}
use Rattle.register_image.proofs.reset.reset_part.Given as goal

abbrev pub invariant-loop-at : goal.invariant-loop-at
invariant-loop-at l =
    (length l.part ≡ 64) × (l.at ≤ 64) × (take l.at l.part ++ reset_from l.n l.at (64 - l.at) ≡ reset_from l.n 0 64)
