use Rattle.rackrun.proofs.room_of.Goals as goal

pub room_in-requires : goal.room_in-requires
room_in-requires c = rw c.in-Ok.is at c.requires
