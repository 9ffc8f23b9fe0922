use Rattle.rack.specs.definitions.Table.{tree_of}
use Rattle.register_image.specs.definitions.Image.{images}
use Rattle.check_search.specs.definitions.Check.{driven_by}
use Rattle.check_search.specs.laws.FirstLaws.{NodesYet}
use Rattle.check_search.proofs.drivers.nodes_drive.Given as goal

abbrev pub invariant-loop-i : goal.invariant-loop-i
invariant-loop-i l =
    NodesYet (tree_of l.registers.table.now) l.bus (driven_by (tree_of l.registers.table.now) (images l.registers.bridges.now l.registers.devices.now) l.bus l.space l.a) l.count l.i
