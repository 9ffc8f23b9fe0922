use Rattle.event_run.proofs.Answering.{denies, lets}
use borrow.Author.Rules.{rules}
use Rattle.event_run.proofs.ended.reached.Goals as goal

pub returns-then-x-may-clause-leaves : goal.returns-then-x-may-clause-leaves
returns-then-x-may-clause-leaves c = search (denies, rules)

pub returns-clause-leaves : goal.returns-clause-leaves
returns-clause-leaves c = search (lets, rules)
