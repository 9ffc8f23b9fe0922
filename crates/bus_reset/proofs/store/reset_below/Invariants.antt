use Rattle.register_image.specs.definitions.LentMut.{tree_at, images_at, Same}
use Rattle.register_image.specs.laws.ResetTurns.{ResetYet}
use Rattle.bus_reset.specs.definitions.Held.{is_below}
use Rattle.bus_reset.proofs.store.reset_below.Given as goal

abbrev pub invariant-loop-i : goal.invariant-loop-i
invariant-loop-i l =
    Same l.initial.registers l.registers
    × ResetYet (tree_at l.initial.registers) (is_below (tree_at l.initial.registers) l.b) (images_at l.initial.registers) l.count (images_at l.registers) l.i
