use Rattle.file_record.proofs.events.event_unknown.Goals as goal

pub returns : goal.returns
returns c = cc
