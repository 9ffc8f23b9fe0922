use Rattle.register_image.proofs.Slot.{inside, outside}
use Rattle.register_image.proofs.image.node_part.Goals as goal

pub returns-then-place-image : goal.returns-then-place-image
returns-then-place-image c = inside _ _ c.if-place-image.true

pub returns : goal.returns
returns c = outside _ _ c.if-place-image.false
