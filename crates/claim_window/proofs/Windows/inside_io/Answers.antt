use Rattle.claim_window.specs.definitions.Inside.{inside_io}
use Rattle.claim_window.proofs.Windows.inside_io.Goals as goal

pub returns : goal.returns
unfolding inside_io
returns c = cc
