use Rattle.route_bridge.proofs.Passed.{crossed_other, crossed_unclaimed}
use borrow.Author.Rules.{rules}
use Rattle.route_bridge.proofs.crossed_by.Goals as goal

pub returns-in_default-clause-leaves : goal.returns-in_default-clause-leaves
returns-in_default-clause-leaves c = search (crossed_other, rules)

pub returns-clause-leaves : goal.returns-clause-leaves
returns-clause-leaves c = search (crossed_unclaimed, rules)
