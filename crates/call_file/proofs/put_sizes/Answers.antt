use Rattle.call_file.proofs.Opening.{bridges_fit, sizes_are}
use borrow.Author.Rules.{rules}
use Rattle.call_file.proofs.put_sizes.Goals as goal

pub overflow_sub-count : goal.overflow_sub-count
overflow_sub-count c = search (bridges_fit, rules)

pub returns : goal.returns
returns c = search (sizes_are, rules)
