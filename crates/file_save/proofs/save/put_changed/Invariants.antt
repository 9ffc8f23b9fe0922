use Rattle.rack.specs.definitions.Table.{tree_of}
use Rattle.register_image.specs.definitions.Image.{images}
use Rattle.file_save.specs.definitions.Saved.{register_bytes, registers_of}
use Rattle.file_save.proofs.Puts.{Putting}
use Rattle.file_save.proofs.save.put_changed.Given as goal

abbrev pub invariant-loop-i : goal.invariant-loop-i
invariant-loop-i l =
    Putting (register_bytes (tree_of l.registers.table.now) (images l.registers.bridges.now l.registers.devices.now)) l.count (registers_of (tree_of l.registers.table.now) (images l.registers.bridges.now l.registers.devices.now)) l.at l.initial.out l.i l.next l.out
