use Rattle.event_run.proofs.Answering.{routed}
use borrow.Author.Rules.{rules}
use Rattle.event_run.proofs.run.configured_by.Goals as goal

pub returns-clause-leaves : goal.returns-clause-leaves
returns-clause-leaves c = search (routed, rules)
