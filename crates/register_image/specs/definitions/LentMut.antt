-- What contracts say of registers that are lent to be changed.
use Rattle.std.specs.Prelude.{◌≡◌}
use Rattle.rack.specs.definitions.Tree.{Tree}
use Rattle.rack.specs.definitions.Table.{tree_of}
use Rattle.register_image.specs.declared.RegistersMut.{RegistersMut}
use Rattle.register_image.specs.definitions.Image.{Images, images}

abbrev pub tree_at : RegistersMut → Tree
tree_at r = tree_of r.table.now

abbrev pub images_at : RegistersMut → Images
images_at r = images r.bridges.now r.devices.now

-- after a call they are those that were lent: the same table, and the bytes behind the same two borrows
pub record Same (old new : RegistersMut) : Type 0 where
  pub table : new.table.now ≡ old.table.now
  pub bridges : new.bridges.ghost_name ≡ old.bridges.ghost_name
  pub devices : new.devices.ghost_name ≡ old.devices.ghost_name
