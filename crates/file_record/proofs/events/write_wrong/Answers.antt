use Rattle.file_record.proofs.events.write_wrong.Goals as goal

pub returns : goal.returns
returns c = simp (← c.register_wrong.ensures)
