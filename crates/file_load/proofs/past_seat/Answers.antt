use Rattle.file_record.specs.laws.Steps.{seat_past}
use Rattle.file_load.proofs.past_seat.Goals as goal

pub returns : goal.returns
returns c =
    seat_past _ c.args.w _ _ c.past.ensures c.requires.1 c.in_ok-take_seat.ensures.fault c.in_ok-take_seat.ensures.taken
