use Rattle.std.proofs.Common.{rules}
use Rattle.register_header.specs.definitions.Register.{set_status}
use Rattle.register_image.proofs.RegistersMut.status_node.Goals as goal

pub returns-clause-leaves : goal.returns-clause-leaves
returns-clause-leaves c = c.change.ensures.leaves (λ n part. set_status n part c.args.side c.args.bit) (λ m part after r long k. search rules)
