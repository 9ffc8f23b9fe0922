use Rattle.std.proofs.Common.{rules}
use borrow.Author.Tests.{tests}
use Rattle.rack.specs.laws.AnyLaws.{any_some}
use Rattle.register_image.specs.definitions.Lent.{tree_in, images_in}
use Rattle.register_image.specs.definitions.Fixed.{node_wrong}
use Rattle.register_image.proofs.Registers.fixed_wrong.Goals as goal

pub returns : goal.returns
returns c = any_some (node_wrong (tree_in c.args.self.now) (images_in c.args.self.now)) _ c.any.ensures.ran (search rules) (λ x q k. search (rules, tests)) (λ x q k. search (rules, tests))
