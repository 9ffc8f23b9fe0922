use Rattle.rack.proofs.Grown.{ends}
use borrow.Author.Rules.{rules}
use Rattle.rack.proofs.table.set_count.Goals as goal

pub returns : goal.returns
returns c = search (ends, rules)
