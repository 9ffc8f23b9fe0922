use Rattle.claim_window.specs.definitions.Inside.{io_until}
use Rattle.claim_window.proofs.Windows.io_until.Goals as goal

pub returns : goal.returns
unfolding io_until
returns c = cc
