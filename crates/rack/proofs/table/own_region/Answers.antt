use Rattle.rack.proofs.Words.{own_none, own_is}
use borrow.Author.Rules.{rules}
use Rattle.rack.proofs.table.own_region.Goals as goal

pub returns-then-is_bridge : goal.returns-then-is_bridge
returns-then-is_bridge c = search (own_none, rules)

pub returns-else-is_bridge : goal.returns-else-is_bridge
returns-else-is_bridge c = search (own_is, rules)
