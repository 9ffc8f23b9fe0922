use mathlib.Core.Path.{◌≡◌}
use Rattle.rack.specs.definitions.Table.{tree_of}
use Rattle.register_image.specs.definitions.Image.{images}
use Rattle.check_search.specs.definitions.Check.{check}
use Rattle.check_sweep.proofs.Reports.{from}
use Rattle.check_sweep.proofs.buses.check_rack.Given as goal

abbrev pub invariant-loop-i : goal.invariant-loop-i
invariant-loop-i l = check (tree_of l.registers.table.now) (images l.registers.bridges.now l.registers.devices.now) ≡ from (tree_of l.registers.table.now) (images l.registers.bridges.now l.registers.devices.now) l.i
