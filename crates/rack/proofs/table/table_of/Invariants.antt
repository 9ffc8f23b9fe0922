use mathlib.Core.Path.{◌≡◌}
use Prim.Native.Nat.{◌≤◌}
use Rattle.rack.specs.definitions.Table.{tree_of}
use Rattle.rack.proofs.Grown.{tree_to}
use Rattle.rack.proofs.table.table_of.Given as goal

abbrev pub invariant-loop-i : goal.invariant-loop-i
invariant-loop-i l = (l.i ≤ l.end) × (tree_of l.table ≡ tree_to l.rack l.i)
