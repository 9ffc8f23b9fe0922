use borrow.Author.Rules.{rules}
use Rattle.file_record.specs.laws.Steps.{host_past}
use Rattle.file_load.proofs.past_host.Goals as goal

pub returns : goal.returns
returns c = search (host_past, rules)
