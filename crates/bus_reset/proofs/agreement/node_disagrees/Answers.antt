use borrow.Author.Rules.{rules}
use Rattle.bus_reset.proofs.Asked.{held_changed, not_held}
use Rattle.bus_reset.proofs.agreement.node_disagrees.Goals as goal

pub returns-then-is_held : goal.returns-then-is_held
returns-then-is_held c = search (held_changed, rules)

pub returns-else-is_held : goal.returns-else-is_held
returns-else-is_held c = search (not_held, rules)
