use Rattle.claim_window.specs.definitions.Inside.{inside_memory}
use Rattle.claim_window.proofs.Windows.inside_memory.Goals as goal

pub returns : goal.returns
unfolding inside_memory
returns c = cc
