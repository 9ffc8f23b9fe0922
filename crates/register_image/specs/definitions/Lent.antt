-- What contracts say of registers that are lent to be read: the tree of their rack, and both images.
use Rattle.rack.specs.definitions.Tree.{Tree}
use Rattle.rack.specs.definitions.Table.{tree_of}
use Rattle.register_image.specs.declared.Registers.{Registers}
use Rattle.register_image.specs.definitions.Image.{Images, images}

abbrev pub tree_in : Registers → Tree
tree_in r = tree_of r.table.now

abbrev pub images_in : Registers → Images
images_in r = images r.bridges.now r.devices.now
