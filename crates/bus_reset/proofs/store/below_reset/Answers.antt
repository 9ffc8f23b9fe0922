use borrow.Author.Rules.{rules}
use Rattle.bus_reset.proofs.Written.{bit_set, bit_clear}
use Rattle.bus_reset.proofs.store.below_reset.Goals as goal

pub returns-then-resets-clause-leaves : goal.returns-then-resets-clause-leaves
returns-then-resets-clause-leaves c = search (bit_set, rules)

pub returns-else-resets-clause-leaves : goal.returns-else-resets-clause-leaves
returns-else-resets-clause-leaves c = search (bit_clear, rules)
