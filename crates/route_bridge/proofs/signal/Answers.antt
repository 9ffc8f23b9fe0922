use Rattle.route_bridge.proofs.Passed.{signal_set}
use borrow.Author.Rules.{rules}
use Rattle.route_bridge.proofs.signal.Goals as goal

pub returns-clause-leaves : goal.returns-clause-leaves
returns-clause-leaves c = search (signal_set, rules)
