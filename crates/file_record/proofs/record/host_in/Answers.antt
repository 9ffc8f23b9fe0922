use Rattle.file_record.proofs.record.host_in.Goals as goal

pub returns : goal.returns
returns c = simp (← c.qword_in.ensures, ← c.qword_in-2.ensures)
