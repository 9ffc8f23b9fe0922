use Rattle.file_record.proofs.Records.{registers_is, registers_long}
use borrow.Author.Rules.{rules}
use Rattle.file_record.proofs.record.registers_in.Goals as goal

pub returns : goal.returns
returns c = (search (registers_is, rules), search (registers_long, rules))
