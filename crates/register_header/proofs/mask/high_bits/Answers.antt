use borrow.Author.Rules.{rules}
use Rattle.register_header.proofs.Power.{none_above}
use Rattle.register_header.proofs.mask.high_bits.Goals as goal

pub returns-else-e-lt32 : goal.returns-else-e-lt32
returns-else-e-lt32 c = search (none_above, rules)
