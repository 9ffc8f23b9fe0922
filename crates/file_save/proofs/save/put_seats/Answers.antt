use borrow.Author.Rules.{rules}
use Rattle.file_save.proofs.Puts.{puts_room, puts_next, puts_end}
use Rattle.file_save.proofs.save.put_seats.Goals as goal

pub put_seat_nodes-next-requires : goal.put_seat_nodes-next-requires
put_seat_nodes-next-requires c = search (puts_room, rules)

pub loop-seat-preserved : goal.loop-seat-preserved
loop-seat-preserved c = search (puts_next, rules)

pub returns : goal.returns
returns c = search (puts_end, rules)
