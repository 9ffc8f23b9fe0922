use Rattle.rack.proofs.Words.{low_holds}
use borrow.Author.Rules.{rules}
use Rattle.rack.proofs.table.low_word.Goals as goal

pub returns : goal.returns
returns c = search (low_holds, rules)
