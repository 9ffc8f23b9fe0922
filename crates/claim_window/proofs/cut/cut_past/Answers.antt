use Rattle.std.proofs.Common.{arith}
use Rattle.std.proofs.lemmas.Bool.Decides.{nat_tests}
use Rattle.claim_window.specs.definitions.Cut.{cut_past}
use Rattle.claim_window.proofs.cut.cut_past.Goals as goal

pub returns-then-a-last : goal.returns-then-a-last
unfolding cut_past
returns-then-a-last c = grind (arith, nat_tests)

pub returns-else-a-last : goal.returns-else-a-last
unfolding cut_past
returns-else-a-last c = grind (arith, nat_tests)
