use Rattle.route_bus.proofs.Seen.{claimed_none, claimed_one, claimed_two}
use borrow.Author.Rules.{rules}
use Rattle.route_bus.proofs.look.claimed_by.Goals as goal

pub returns-in-Nobody-clause-leaves : goal.returns-in-Nobody-clause-leaves
returns-in-Nobody-clause-leaves c = search (claimed_none, rules)

pub returns-in-One-clause-leaves : goal.returns-in-One-clause-leaves
returns-in-One-clause-leaves c = search (claimed_one, rules)

pub returns-in-Two-clause-leaves : goal.returns-in-Two-clause-leaves
returns-in-Two-clause-leaves c = search (claimed_two, rules)
