use mathlib.Core.Logic.{inl, inr}
use mathlib.Core.Path.{sym, ◌∙◌}
use Rattle.check_search.specs.definitions.Check.{at_value}
use Rattle.check_search.specs.laws.FirstLaws.{in_one}
use Rattle.check_search.proofs.drivers.first_driver.Goals as goal

pub returns-in-Memory : goal.returns-in-Memory
unfolding at_value
returns-in-Memory c =
    elim c.in-Memory.is [ inl e ↦ rw e (rw e at c.agents_drive.ensures) | inr e ↦ rw e (rw e at c.agents_drive.ensures) ]

pub returns-in-Configuration : goal.returns-in-Configuration
unfolding at_value
returns-in-Configuration c =
    let e = c.in-Configuration.is in
    let d = rw e at c.driven_by.ensures in
    rw e (d ∙ sym (in_one _ _))
