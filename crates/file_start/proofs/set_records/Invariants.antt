use Prim.Native.Nat.{◌+◌, ◌*◌}
use Rattle.register_image.specs.definitions.LentMut.{tree_at, images_at, Same}
use Rattle.file_start.proofs.Turns.{Left}
use Rattle.file_start.proofs.set_records.Given as goal

abbrev pub invariant-loop-i : goal.invariant-loop-i
invariant-loop-i l =
    Same l.initial.registers l.registers
    × Left l.file (tree_at l.initial.registers) l.first l.end (images_at l.initial.registers) (l.first + 66 * l.i) (images_at l.registers)
