use Rattle.std.proofs.Common.{◌≡◌, ℕ, Bool, ◌+◌, ◌-◌}
use Rattle.rack.specs.definitions.Table.{tree_of}
use Rattle.bus_reset.specs.laws.WayUp.{NoneAbove}
use Rattle.bus_reset.proofs.held.any_above.Given as goal

abbrev pub invariant-loop-step : goal.invariant-loop-step
invariant-loop-step g l =
    (p : ℕ → Bool) → ((x : ℕ) (r : Bool) → goal.F-post g l.test x r → r ≡ p x)
    → NoneAbove (tree_of l.table) p l.bus (l.bus + 1 - l._step) l.at
