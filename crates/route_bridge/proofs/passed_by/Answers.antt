use Rattle.route_bridge.proofs.Passed.{at_last, at_done, at_earlier}
use borrow.Author.Rules.{rules}
use Rattle.route_bridge.proofs.passed_by.Goals as goal

pub returns-in-Abort-clause-leaves : goal.returns-in-Abort-clause-leaves
returns-in-Abort-clause-leaves c = search (at_last, rules)

pub returns-in-Done-clause-leaves : goal.returns-in-Done-clause-leaves
returns-in-Done-clause-leaves c = search (at_done, rules)

pub returns-in-Target-clause-leaves : goal.returns-in-Target-clause-leaves
returns-in-Target-clause-leaves c = search (at_earlier, rules)
