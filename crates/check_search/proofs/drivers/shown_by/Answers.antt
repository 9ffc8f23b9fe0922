use mathlib.Core.Logic.{inl, inr}
use Rattle.check_search.specs.definitions.Check.{shown}
use Rattle.check_search.proofs.drivers.shown_by.Goals as goal

pub returns-in-Nobody : goal.returns-in-Nobody
unfolding shown
returns-in-Nobody c = elim c.in-Nobody.is [ inl e ↦ simp e | inr e ↦ simp e.1 ]

pub returns-in-Two : goal.returns-in-Two
unfolding shown
returns-in-Two c = simp c.in-Two.is
