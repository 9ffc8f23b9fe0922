use Rattle.call_numbers.proofs.Told.{padded}
use Rattle.call_numbers.proofs.eight.Goals as goal

pub returns : goal.returns
returns c = rw c.copy_from_slice.ensures.after (padded _ c.requires)
