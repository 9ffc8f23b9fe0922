use Rattle.rackrun.proofs.Parts.{Printing}
use Rattle.seat.specs.definitions.Table.{grants_of}
use Rattle.register_image.specs.definitions.LentMut.{tree_at, images_at, Same}
use Rattle.print_output.specs.definitions.Piece.{to_go}
use Rattle.rackrun.proofs.print_rest.Given as goal

abbrev pub invariant-loop-registers : goal.invariant-loop-registers
invariant-loop-registers l =
    Printing l.file (tree_at l.initial.registers) (grants_of l.grants) l.initial.p.rest (images_at l.initial.registers) l.p (images_at l.registers)
    × Same l.initial.registers l.registers

abbrev pub decreases-loop-registers : goal.decreases-loop-registers
decreases-loop-registers l = to_go l.file l.p.rest
