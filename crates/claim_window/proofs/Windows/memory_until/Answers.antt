use Rattle.claim_window.specs.definitions.Inside.{memory_until}
use Rattle.claim_window.proofs.Windows.memory_until.Goals as goal

pub returns : goal.returns
unfolding memory_until
returns c = cc
