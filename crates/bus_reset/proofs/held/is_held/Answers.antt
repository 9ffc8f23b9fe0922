use borrow.Author.Rules.{rules}
use Rattle.bus_reset.proofs.Below.{held_on}
use Rattle.bus_reset.proofs.held.is_held.Goals as goal

pub returns : goal.returns
returns c = search (held_on, rules)
