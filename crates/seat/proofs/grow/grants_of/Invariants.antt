use mathlib.Core.Path.{◌≡◌}
use Prim.Native.Nat.{◌≤◌}
use Rattle.seat.specs.definitions.Table.{grants_of}
use Rattle.seat.proofs.Filled.{grants_to}
use Rattle.seat.proofs.grow.grants_of.Given as goal

abbrev pub invariant-loop-at : goal.invariant-loop-at
invariant-loop-at l = (l.at ≤ 1440) × (grants_of l.table ≡ grants_to l.rack l.at)
