use Rattle.route_bus.proofs.Seen.{look_direct, look_claimed}
use borrow.Author.Rules.{rules}
use Rattle.route_bus.proofs.look.look_on.Goals as goal

pub returns-then-type0-clause-leaves : goal.returns-then-type0-clause-leaves
returns-then-type0-clause-leaves c = search (look_direct, rules)

pub returns-clause-leaves : goal.returns-clause-leaves
returns-clause-leaves c = search (look_claimed, rules)
