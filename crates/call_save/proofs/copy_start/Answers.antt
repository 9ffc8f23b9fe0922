use Rattle.call_save.proofs.Saving.{start_copied}
use borrow.Author.Rules.{rules}
use Rattle.call_save.proofs.copy_start.Goals as goal

pub returns : goal.returns
returns c = search (start_copied, rules)
