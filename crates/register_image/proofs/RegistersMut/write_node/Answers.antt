use Rattle.std.proofs.Common.{rules}
use Rattle.register_header.specs.definitions.Register.{write_register}
use Rattle.register_image.proofs.RegistersMut.write_node.Goals as goal

pub returns-clause-leaves : goal.returns-clause-leaves
returns-clause-leaves c =
    c.change.ensures.leaves (λ n part. write_register n part c.args.register c.args.enables c.args.put) (λ m part after r long k. search rules)
