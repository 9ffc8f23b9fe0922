use Rattle.rack.proofs.Grown.{none_held}
use borrow.Author.Rules.{rules}
use Rattle.rack.proofs.grow.no_table.Goals as goal

pub returns : goal.returns
returns c = search (none_held, rules)
