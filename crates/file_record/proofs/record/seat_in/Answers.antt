use Rattle.file_record.proofs.record.seat_in.Goals as goal

pub returns : goal.returns
returns c = cc
