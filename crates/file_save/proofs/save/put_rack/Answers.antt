use borrow.Author.Rules.{rules}
use Rattle.file_save.proofs.Whole.{host_room, nodes_room, seats_room, rack_put}
use Rattle.file_save.proofs.save.put_rack.Goals as goal

pub put_host-next-requires : goal.put_host-next-requires
put_host-next-requires c = search (host_room, rules)

pub put_nodes-next-requires : goal.put_nodes-next-requires
put_nodes-next-requires c = search (nodes_room, rules)

pub put_seats-requires : goal.put_seats-requires
put_seats-requires c = search (seats_room, rules)

pub returns : goal.returns
returns c = search (rack_put, rules)
