use Rattle.print_file.proofs.Turns.{FillLeft}
use Prim.Native.Nat.{◌-◌}
use lib.ListN.{length}
use Rattle.seat.specs.definitions.Table.{grants_of}
use Rattle.register_image.specs.definitions.LentMut.{tree_at, images_at, Same}
use Rattle.print_file.proofs.fill.fill.Given as goal

abbrev pub invariant-loop-next : goal.invariant-loop-next
invariant-loop-next l =
    FillLeft (tree_at l.initial.registers) (grants_of l.grants) l.file l.initial.out l.initial.next (images_at l.initial.registers) l.out l.next l.len (images_at l.registers)
    × Same l.initial.registers l.registers

abbrev pub decreases-loop-next : goal.decreases-loop-next
decreases-loop-next l = length l.file - l.next.offset
