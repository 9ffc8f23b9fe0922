use Rattle.std.proofs.Common.{rules}
use borrow.Author.Tests.{tests}
use Rattle.rack.specs.laws.AnyLaws.{find_first}
use Rattle.register_image.specs.definitions.Lent.{tree_in, images_in}
use Rattle.claim_agent.specs.definitions.Claimants.{counted_on_bus}
use Rattle.claim_bus.proofs.bus.next_claimant.Goals as goal

pub returns : goal.returns
returns c =
    rw c.count_of.ensures at
    (find_first (counted_on_bus (tree_in c.args.registers.now) (images_in c.args.registers.now) c.args.t.space c.args.t.bus c.args.t.driver c.args.t.address)
    c.args.from c.count_of.result _ c.find.ensures.ran (search rules) (λ x q k. search (rules, tests)) (λ x q k. search (rules, tests)))
