use borrow.Author.Rules.{rules}
use Rattle.rack.proofs.Words.{kind_read}
use Rattle.rack.proofs.table.bridge_in.Goals as goal

pub returns : goal.returns
returns c = search (kind_read, rules)
