use Rattle.register_image.specs.definitions.Lent.{tree_in, images_in}
use Rattle.bus_reset.specs.definitions.Held.{resets}
use Rattle.bus_reset.proofs.held.is_held_bus.Goals as goal

pub returns : goal.returns
returns c = c.any_above.ensures (resets (tree_in c.args.registers.now) (images_in c.args.registers.now)) (λ x r h. cc)
