use Rattle.std.proofs.Common.{rules}
use borrow.Author.Tests.{tests}
use Rattle.rack.specs.laws.AnyLaws.{any_some}
use Rattle.register_image.specs.definitions.Lent.{tree_in, images_in}
use Rattle.bus_reset.specs.definitions.Agreement.{node_disagrees}
use Rattle.bus_reset.proofs.agreement.disagrees.Goals as goal

pub returns : goal.returns
returns c = any_some (node_disagrees (tree_in c.args.registers.now) (images_in c.args.registers.now)) _ c.any.ensures.ran (search rules) (λ x q k. search (rules, tests)) (λ x q k. search (rules, tests))
