use Rattle.event_run.proofs.ended.read_of.Goals as goal

pub returns : goal.returns
returns c = simp (c.read_register.ensures, c.view-part.ensures)
