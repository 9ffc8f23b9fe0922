use borrow.Author.Rules.{rules}
use Rattle.file_record.specs.laws.Steps.{event_past}
use Rattle.file_load.proofs.past_event.Goals as goal

pub returns : goal.returns
returns c = search (event_past, rules)
