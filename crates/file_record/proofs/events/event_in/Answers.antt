use Rattle.file_record.proofs.Records.{write_in, read_in_lem, memory_in_lem, io_in, seat_in_lem, check_in_lem}
use borrow.Author.Rules.{rules}
use Rattle.file_record.proofs.events.event_in.Goals as goal

pub returns-in-4 : goal.returns-in-4
returns-in-4 c = search (write_in, rules)

pub returns-in-5 : goal.returns-in-5
returns-in-5 c = search (read_in_lem, rules)

pub returns-in-6 : goal.returns-in-6
returns-in-6 c = search (memory_in_lem, rules)

pub returns-in-7 : goal.returns-in-7
returns-in-7 c = search (io_in, rules)

pub returns-in-10 : goal.returns-in-10
returns-in-10 c = search (seat_in_lem, rules)

pub returns-in_default : goal.returns-in_default
returns-in_default c = search (check_in_lem, rules)
