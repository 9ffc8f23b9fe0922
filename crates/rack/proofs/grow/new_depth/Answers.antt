use Rattle.rack.proofs.Grown.{new_is, new_root}
use borrow.Author.Rules.{rules}
use Rattle.rack.proofs.grow.new_depth.Goals as goal

pub returns-then-parent-count_of : goal.returns-then-parent-count_of
returns-then-parent-count_of c = search (new_is, rules)

pub returns-else-parent-count_of : goal.returns-else-parent-count_of
returns-else-parent-count_of c = search (new_root, rules)
