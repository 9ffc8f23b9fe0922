use Rattle.route_bus.proofs.Seen.{abort_host, abort_other}
use borrow.Author.Rules.{rules}
use Rattle.route_bus.proofs.look.master_abort.Goals as goal

pub returns-then-driver-eq255-clause-leaves : goal.returns-then-driver-eq255-clause-leaves
returns-then-driver-eq255-clause-leaves c = search (abort_host, rules)

pub returns-clause-leaves : goal.returns-clause-leaves
returns-clause-leaves c = search (abort_other, rules)
