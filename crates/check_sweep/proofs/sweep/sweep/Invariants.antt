use lib.ListN.{length}
use Prim.Native.Nat.{◌+◌, ◌-◌, ◌≤◌}
use mathlib.Core.Path.{◌≡◌}
use Rattle.rack.specs.definitions.Table.{tree_of}
use Rattle.register_image.specs.definitions.Image.{images}
use Rattle.check_search.specs.definitions.Check.{first_from, at_value}
use Rattle.check_sweep.proofs.Seen.{Seen}
use Rattle.check_sweep.proofs.sweep.sweep.Given as goal

abbrev pub invariant-loop-agent-2 : goal.invariant-loop-agent-2
invariant-loop-agent-2 l = Seen l.gathered l.space l.a (length l.gathered) l.last l.claiming l.until l.agent-index

abbrev pub invariant-loop-agent : goal.invariant-loop-agent
invariant-loop-agent l =
    (l.a ≤ l.last)
    × (first_from (at_value (tree_of l.registers.table.now) (images l.registers.bridges.now l.registers.devices.now) l.bus l.space) (l.last + 1 - l.first) l.first
    ≡ first_from (at_value (tree_of l.registers.table.now) (images l.registers.bridges.now l.registers.devices.now) l.bus l.space) (l.last + 1 - l.a) l.a)

abbrev pub decreases-loop-agent : goal.decreases-loop-agent
decreases-loop-agent l = l.last + 1 - l.a
