use borrow.Author.Rules.{rules}
use Rattle.file_record.specs.laws.Steps.{few_nodes, seat_right, seat_granted, seat_noted}
use Rattle.file_load.proofs.take_seat.Goals as goal

pub returns-then-seat_wrong-clause-taken : goal.returns-then-seat_wrong-clause-taken
returns-then-seat_wrong-clause-taken c = search (seat_noted, rules)

pub add_grant-requires : goal.add_grant-requires
add_grant-requires c = (search (few_nodes, rules), search (seat_right, rules))

pub returns-clause-taken : goal.returns-clause-taken
returns-clause-taken c = search (seat_granted, rules)
