use Rattle.route_bridge.proofs.Passed.{last_posted, last_target, last_done}
use borrow.Author.Rules.{rules}
use Rattle.route_bridge.proofs.last_outcome.Goals as goal

pub returns-then-is_posted : goal.returns-then-is_posted
returns-then-is_posted c = search (last_posted, rules)

pub returns-then-bit_at : goal.returns-then-bit_at
returns-then-bit_at c = search (last_target, rules)

pub returns : goal.returns
returns c = search (last_done, rules)
