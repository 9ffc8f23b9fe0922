use Rattle.file_record.proofs.record.region_from.Goals as goal

pub returns : goal.returns
returns c = simp (← c.byte_at.ensures, ← c.byte_at-2.ensures)
