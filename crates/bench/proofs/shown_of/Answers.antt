use Rattle.bench.specs.definitions.Shown.{shown_of}
use Rattle.bench.proofs.Measured.{unowned}
use Rattle.bench.proofs.shown_of.Goals as goal

pub returns-in-Owner : goal.returns-in-Owner
unfolding shown_of
returns-in-Owner c = simp c.in-Owner.is

pub returns-in_default : goal.returns-in_default
returns-in_default c = unowned _ _ c.in_default.not-Owner
