use Rattle.event_run.proofs.Answering.{write_answered, read_answered, memory_answered, io_answered, check_answered, seat_answered}
use borrow.Author.Rules.{rules}
use Rattle.event_run.proofs.run.answer_event.Goals as goal

pub returns-in-Write-clause-leaves : goal.returns-in-Write-clause-leaves
returns-in-Write-clause-leaves c = search (write_answered, rules)

pub returns-in-Read-clause-leaves : goal.returns-in-Read-clause-leaves
returns-in-Read-clause-leaves c = search (read_answered, rules)

pub returns-in-Memory-clause-leaves : goal.returns-in-Memory-clause-leaves
returns-in-Memory-clause-leaves c = search (memory_answered, rules)

pub returns-in-Io-clause-leaves : goal.returns-in-Io-clause-leaves
returns-in-Io-clause-leaves c = search (io_answered, rules)

pub returns-in-Check-clause-leaves : goal.returns-in-Check-clause-leaves
returns-in-Check-clause-leaves c = search (check_answered, rules)

pub returns-in-Seat-clause-leaves : goal.returns-in-Seat-clause-leaves
returns-in-Seat-clause-leaves c = search (seat_answered, rules)
