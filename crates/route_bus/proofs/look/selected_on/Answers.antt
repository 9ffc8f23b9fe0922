use borrow.Author.Rules.{rules}
use Rattle.route_bus.proofs.Seen.{selects_none, selects_node}
use Rattle.route_bus.proofs.look.selected_on.Goals as goal

pub returns-in-None-clause-leaves : goal.returns-in-None-clause-leaves
returns-in-None-clause-leaves c = search (selects_none, c.in-None.ensures.number, rules)

pub returns-in-Some-clause-leaves : goal.returns-in-Some-clause-leaves
returns-in-Some-clause-leaves c = search (selects_node, c.in-Some.ensures.number, c.in-Some.ensures.node, rules)
