use Rattle.rack.specs.definitions.Table.{tree_of}
use Rattle.register_image.specs.definitions.Image.{images}
use Rattle.check_sweep.proofs.Filled.{GatheredTo}
use Rattle.check_sweep.proofs.agents.agents_on.Given as goal

abbrev pub invariant-loop-i : goal.invariant-loop-i
invariant-loop-i l = GatheredTo (tree_of l.registers.table.now) (images l.registers.bridges.now l.registers.devices.now) l.bus l.count l.found l.n l.i
