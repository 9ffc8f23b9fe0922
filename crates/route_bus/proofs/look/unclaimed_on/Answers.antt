use Rattle.route_bus.proofs.Seen.{abort_seen}
use borrow.Author.Rules.{rules}
use Rattle.route_bus.proofs.look.unclaimed_on.Goals as goal

pub returns-clause-leaves : goal.returns-clause-leaves
returns-clause-leaves c = search (abort_seen, rules)
