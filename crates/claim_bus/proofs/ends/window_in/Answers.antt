use Rattle.claim_bus.proofs.Decoded.{window_0, window_1, window_2, window_none}
use borrow.Author.Rules.{rules}
use Rattle.claim_bus.proofs.ends.window_in.Goals as goal

pub returns-in-0 : goal.returns-in-0
returns-in-0 c = search (window_0, rules)

pub returns-in-1 : goal.returns-in-1
returns-in-1 c = search (window_1, rules)

pub returns-in-2 : goal.returns-in-2
returns-in-2 c = search (window_2, rules)

pub returns-in_default : goal.returns-in_default
returns-in_default c = search (window_none, rules)
