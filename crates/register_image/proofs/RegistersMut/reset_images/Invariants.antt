use mathlib.Core.Bool.{true}
use Rattle.register_image.specs.definitions.LentMut.{tree_at, images_at, Same}
use Rattle.register_image.specs.laws.ResetTurns.{ResetYet}
use Rattle.register_image.proofs.RegistersMut.reset_images.Given as goal

abbrev pub invariant-loop-i : goal.invariant-loop-i
invariant-loop-i l =
    Same l.initial.self l.self
    × ResetYet (tree_at l.initial.self) (λ i. true) (images_at l.initial.self) l.count (images_at l.self) l.i
