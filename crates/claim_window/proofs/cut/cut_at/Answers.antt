use Rattle.std.proofs.Common.{arith}
use Rattle.std.proofs.lemmas.Bool.Decides.{nat_tests}
use Rattle.claim_window.specs.definitions.Cut.{cut_at}
use Rattle.claim_window.proofs.cut.cut_at.Goals as goal

pub returns-then-a-at : goal.returns-then-a-at
unfolding cut_at
returns-then-a-at c = grind (arith, nat_tests)

pub returns-else-a-at : goal.returns-else-a-at
unfolding cut_at
returns-else-a-at c = grind (arith, nat_tests)
