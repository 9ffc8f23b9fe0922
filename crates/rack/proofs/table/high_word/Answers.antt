use Rattle.rack.proofs.Words.{high_holds}
use borrow.Author.Rules.{rules}
use Rattle.rack.proofs.table.high_word.Goals as goal

pub returns : goal.returns
returns c = search (high_holds, rules)
