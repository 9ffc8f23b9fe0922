use borrow.Author.Rules.{rules}
use Rattle.file_save.proofs.Puts.{puts_room, puts_next, puts_end}
use Rattle.file_save.proofs.Records.{node_same}
use Rattle.file_save.proofs.save.put_nodes.Goals as goal

pub put_node-next-requires : goal.put_node-next-requires
put_node-next-requires c = search (puts_room, node_same, rules)

pub loop-node-preserved : goal.loop-node-preserved
loop-node-preserved c = search (puts_next, node_same, rules)

pub returns : goal.returns
returns c = search (puts_end, rules)
