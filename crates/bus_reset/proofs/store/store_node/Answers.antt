use borrow.Author.Rules.{rules}
use Rattle.bus_reset.proofs.Written.{held_stores, free_stores}
use Rattle.bus_reset.proofs.store.store_node.Goals as goal

pub returns-then-is_held-clause-leaves : goal.returns-then-is_held-clause-leaves
returns-then-is_held-clause-leaves c = search (held_stores, rules)

pub returns-clause-leaves : goal.returns-clause-leaves
returns-clause-leaves c = search (free_stores, rules)
