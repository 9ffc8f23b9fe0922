use borrow.Author.Rules.{rules}
use Rattle.register_header.proofs.Masks.{write_low, write_high, write_none, write_zero}
use Rattle.register_header.proofs.mask.region_write.Goals as goal

pub returns-in_default : goal.returns-in_default
returns-in_default c = search (write_low, rules)

pub returns-in-3 : goal.returns-in-3
returns-in-3 c = search (write_high, rules)

pub returns-in_default-2 : goal.returns-in_default-2
returns-in_default-2 c = search (write_none, rules)

pub returns-in-0 : goal.returns-in-0
returns-in-0 c = search (write_zero, rules)
