use Rattle.std.proofs.Common.{arith}
use Rattle.std.proofs.lemmas.Bool.Decides.{nat_tests}
use Rattle.register_header.specs.definitions.Mask.{region_reset}
use Rattle.register_header.proofs.mask.region_reset.Goals as goal

pub returns-then-k-gt0 : goal.returns-then-k-gt0
unfolding region_reset
returns-then-k-gt0 c = grind (arith, nat_tests)

pub returns-in-1 : goal.returns-in-1
unfolding region_reset
returns-in-1 c = grind (arith, nat_tests)

pub returns-in-3 : goal.returns-in-3
unfolding region_reset
returns-in-3 c = grind (arith, nat_tests)

pub returns-in_default : goal.returns-in_default
unfolding region_reset
returns-in_default c = grind (arith, nat_tests)
