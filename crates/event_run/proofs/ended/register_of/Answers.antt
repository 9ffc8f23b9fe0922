use Rattle.event_run.proofs.Answering.{stores, reads}
use borrow.Author.Rules.{rules}
use Rattle.event_run.proofs.ended.register_of.Goals as goal

pub returns-then-x-clause-leaves : goal.returns-then-x-clause-leaves
returns-then-x-clause-leaves c = search (stores, rules)

pub returns-clause-leaves : goal.returns-clause-leaves
returns-clause-leaves c = search (reads, rules)
