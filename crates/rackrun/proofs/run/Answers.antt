use Rattle.rackrun.proofs.Blank.{zeros_room, zeros_part}
use Rattle.rackrun.proofs.Loaded.{rack_read, images_read}
use Rattle.rackrun.proofs.Parts.{printed_all}
use borrow.Author.Rules.{rules}
use Rattle.rackrun.proofs.run.Goals as goal

pub room_of-room-requires : goal.room_of-room-requires
room_of-room-requires c = rack_read _ _ c.load_file-loaded.ensures

pub slice_bounds-bridges-end : goal.slice_bounds-bridges-end
slice_bounds-bridges-end c = search (zeros_room, rules)

pub slice_bounds-print_loaded-end : goal.slice_bounds-print_loaded-end
slice_bounds-print_loaded-end c = search (zeros_part, rules)

pub slice_bounds-devices-end : goal.slice_bounds-devices-end
slice_bounds-devices-end c = search (zeros_room, rules)

pub slice_bounds-print_loaded-end-2 : goal.slice_bounds-print_loaded-end-2
slice_bounds-print_loaded-end-2 c = search (zeros_part, rules)

pub print_loaded-requires : goal.print_loaded-requires
print_loaded-requires c = (
  c.load_file-loaded.ensures,
  images_read _ _ _ _ _ c.bridges_image-bridges.ensures c.devices_image-devices.ensures c.room_of-room.ensures.fits c.room_of-room.ensures.exact,
)

pub returns : goal.returns
returns c = search (printed_all, rules)
