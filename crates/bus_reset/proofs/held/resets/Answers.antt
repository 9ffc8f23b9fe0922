use borrow.Author.Rules.{rules}
use Rattle.bus_reset.proofs.Below.{bit_reset}
use Rattle.bus_reset.proofs.held.resets.Goals as goal

pub returns : goal.returns
returns c = search (bit_reset, rules)
