use Rattle.claim_agent.specs.definitions.WindowEnds.{window_ends}
use borrow.Author.Tests.{le-ltb}
use borrow.Author.Rules.{rules}
use Rattle.claim_bus.proofs.Decoded.{ends_window, ends_region}
use Rattle.claim_bus.proofs.ends.window_ends.Goals as goal

pub returns-then-is_bridge : goal.returns-then-is_bridge
returns-then-is_bridge c = search (ends_window, rules)

pub returns-then-k-lt3 : goal.returns-then-k-lt3
returns-then-k-lt3 c = search (ends_region, rules)

pub returns : goal.returns
unfolding window_ends
returns c = simp (le-ltb _ _ c.if-k-lt3.false)
