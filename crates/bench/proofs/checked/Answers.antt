use Rattle.bench.proofs.Measured.{value_shown}
use borrow.Author.Rules.{rules}
use Rattle.bench.proofs.checked.Goals as goal

pub returns : goal.returns
returns c = search (value_shown, rules)
