use Rattle.file_record.proofs.events.initiates_at.Goals as goal

pub returns : goal.returns
returns c = simp (c.is_bridge_at-bridge.ensures, c.count_of-count.ensures)
