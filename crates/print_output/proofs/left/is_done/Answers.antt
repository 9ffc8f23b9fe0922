use Rattle.print_output.proofs.Done.{done_refused, done_events, done_all}
use borrow.Author.Rules.{rules}
use Rattle.print_output.proofs.left.is_done.Goals as goal

pub returns-in-Refused : goal.returns-in-Refused
returns-in-Refused c = search (done_refused, rules)

pub returns-in-Events : goal.returns-in-Events
returns-in-Events c = search (done_events, rules)

pub returns-in-Nothing : goal.returns-in-Nothing
returns-in-Nothing c = search (done_all, rules)
