use borrow.Author.Rules.{rules}
use Rattle.bus_reset.proofs.Written.{is_below_lem, not_below}
use Rattle.bus_reset.proofs.store.reset_if_below.Goals as goal

pub returns-then-is_below-clause-leaves : goal.returns-then-is_below-clause-leaves
returns-then-is_below-clause-leaves c = search (is_below_lem, rules)

pub returns-else-is_below-clause-leaves : goal.returns-else-is_below-clause-leaves
returns-else-is_below-clause-leaves c = search (not_below, rules)
