use Rattle.bench.specs.definitions.Shown.{value_of}
use Rattle.bench.proofs.value_of.Goals as goal

pub returns-in-Ok : goal.returns-in-Ok
unfolding value_of
returns-in-Ok c = simp c.in-Ok.is

pub returns-in-Err : goal.returns-in-Err
unfolding value_of
returns-in-Err c = simp c.in-Err.is
