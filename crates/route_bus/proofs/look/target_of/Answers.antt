use Rattle.std.proofs.Common.{rules, ◌/◌}
use borrow.Author.Tests.{tests}
use Rattle.rack.specs.definitions.Table.{tree_of}
use Rattle.rack.specs.laws.AnyLaws.{find_first}
use Rattle.route_bus.proofs.Sits.{sits, sits_off, sits_searched}
use Rattle.route_bus.proofs.look.target_of.Goals as goal

pub returns-then-devfn-ne0-clause-number : goal.returns-then-devfn-ne0-clause-number
returns-then-devfn-ne0-clause-number c = sits_off _ _ _ c.if-devfn-ne0.true

pub returns-clause-number : goal.returns-clause-number
returns-clause-number c =
    sits_searched (tree_of c.args.table.now) c.args.bus c.args.devfn c.if-devfn-ne0.false c.count_of.ensures
    (find_first (sits (tree_of c.args.table.now) c.args.bus (c.args.devfn / 8)) 0 c.count_of.result _ c.find.ensures.ran
    (search rules) (λ x q k. search (rules, tests)) (λ x q k. search (rules, tests)))
