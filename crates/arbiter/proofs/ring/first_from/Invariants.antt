use mathlib.Core.Path.{◌≡◌}
use Rattle.arbiter.specs.definitions.SetSearch.{first_from}
use Rattle.arbiter.proofs.ring.first_from.Given as goal

-- what is left to search gives what the whole search gives
abbrev pub invariant-loop-place : goal.invariant-loop-place
invariant-loop-place l = first_from l.set l.place ≡ first_from l.set l.from
