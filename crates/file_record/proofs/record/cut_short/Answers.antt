use Rattle.file_record.specs.definitions.Record.{cut_short}
use Rattle.file_record.proofs.record.cut_short.Goals as goal

pub returns : goal.returns
unfolding cut_short
returns c = simp (← c.byte_at.ensures, ← c.size_of.ensures.0)
