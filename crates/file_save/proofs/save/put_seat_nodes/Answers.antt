use borrow.Author.Rules.{rules}
use Rattle.file_save.proofs.Puts.{puts_room, puts_next, puts_end}
use Rattle.file_save.proofs.save.put_seat_nodes.Goals as goal

-- which records are placed, before that there is room for them
pub loop-node-preserved : goal.loop-node-preserved
loop-node-preserved c = search (puts_next, rules)

pub put_seat-next-requires : goal.put_seat-next-requires
put_seat-next-requires c = search (puts_room, rules)

pub returns : goal.returns
returns c = search (puts_end, rules)
