use Prim.Native.Nat.{◌-◌}
use lib.ListN.{length}
use Rattle.file_record.specs.definitions.Loads.{reading_of}
use Rattle.file_record.specs.laws.LoadsLaws.{Left}
use Rattle.file_load.proofs.read.Given as goal

abbrev pub invariant-loop-w : goal.invariant-loop-w
invariant-loop-w l = Left l.whole l.file (reading_of l.w l.table l.grants)

abbrev pub decreases-loop-w : goal.decreases-loop-w
decreases-loop-w l = length l.file - l.w.offset
