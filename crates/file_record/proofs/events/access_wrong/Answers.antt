use Rattle.file_record.proofs.events.access_wrong.Goals as goal

pub returns : goal.returns
returns c = simp (← c.initiates_at-is.ensures)
