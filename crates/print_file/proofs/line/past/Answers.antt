use Rattle.print_file.proofs.Ran.{went_past}
use borrow.Author.Rules.{rules}
use Rattle.print_file.proofs.line.past.Goals as goal

pub returns : goal.returns
returns c = search (went_past, rules)
