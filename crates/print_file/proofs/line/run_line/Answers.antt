use Rattle.print_file.proofs.Ran.{ran_line, ran_images}
use borrow.Author.Rules.{rules}
use Rattle.print_file.proofs.line.run_line.Goals as goal

pub returns-clause-leaves : goal.returns-clause-leaves
returns-clause-leaves c = (search (ran_line, rules), search (ran_images, rules))
