use borrow.Author.Rules.{rules}
use Rattle.rack.proofs.Grown.{to_none, to_more, to_room, to_all}
use Rattle.rack.proofs.table.table_of.Goals as goal

pub loop-i-init : goal.loop-i-init
loop-i-init c = (search rules, search (to_none, rules))

pub add_node-requires : goal.add_node-requires
add_node-requires c = search (to_room, rules)

pub loop-i-preserved : goal.loop-i-preserved
loop-i-preserved c = (search rules, search (to_more, rules))

pub returns : goal.returns
returns c = search (to_all, rules)
