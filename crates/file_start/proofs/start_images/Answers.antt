use Rattle.file_start.proofs.Turns.{started}
use borrow.Author.Rules.{rules}
use Rattle.file_start.proofs.start_images.Goals as goal

pub returns-clause-leaves : goal.returns-clause-leaves
returns-clause-leaves c = search (started, rules)
