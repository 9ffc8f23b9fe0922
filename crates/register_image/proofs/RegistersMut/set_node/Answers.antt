use Rattle.std.proofs.Common.{rules}
use Rattle.register_image.proofs.RegistersMut.set_node.Goals as goal

pub returns-clause-leaves : goal.returns-clause-leaves
returns-clause-leaves c = c.change.ensures.leaves (λ n part. c.args.bytes.now) (λ m part after r long k. search rules)
