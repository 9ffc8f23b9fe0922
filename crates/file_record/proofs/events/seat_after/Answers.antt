use Rattle.file_record.proofs.Records.{no_seat}
use Rattle.file_record.specs.definitions.Events.{seat_after}
use Rattle.file_record.proofs.events.seat_after.Goals as goal

pub returns-in-Seat : goal.returns-in-Seat
unfolding seat_after
returns-in-Seat c = rw c.in-Seat.is

pub returns-in_default : goal.returns-in_default
returns-in_default c = no_seat c.args.seat c.args.e c.in_default.not-Seat
