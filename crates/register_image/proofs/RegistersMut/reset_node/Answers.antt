use Rattle.std.proofs.Common.{rules}
use Rattle.register_image.specs.definitions.Reset.{reset_part}
use Rattle.register_image.proofs.RegistersMut.reset_node.Goals as goal

pub returns-clause-leaves : goal.returns-clause-leaves
returns-clause-leaves c = c.change.ensures.leaves (λ n part. reset_part n) (λ m part after r long k. search rules)
