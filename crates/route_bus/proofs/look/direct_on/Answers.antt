use Rattle.route_bus.proofs.Seen.{direct_special, direct_selects}
use borrow.Author.Rules.{rules}
use Rattle.route_bus.proofs.look.direct_on.Goals as goal

pub returns-then-is_special_cycle-clause-leaves : goal.returns-then-is_special_cycle-clause-leaves
returns-then-is_special_cycle-clause-leaves c = search (direct_special, rules)

pub returns-clause-leaves : goal.returns-clause-leaves
returns-clause-leaves c = search (direct_selects, rules)
