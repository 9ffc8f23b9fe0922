use borrow.Author.Rules.{rules}
use Rattle.route_bus.proofs.Seen.{found_held, found_free}
use Rattle.route_bus.proofs.look.found_on.Goals as goal

pub returns-then-is_held_bus-clause-number : goal.returns-then-is_held_bus-clause-number
returns-then-is_held_bus-clause-number c = search (found_held, rules)

pub returns-clause-number : goal.returns-clause-number
returns-clause-number c = search (found_free, rules)
