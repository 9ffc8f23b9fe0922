use Rattle.claim_bus.proofs.OnBus.{host_asked, secondary_asked, primary_asked, device_asked}
use borrow.Author.Rules.{rules}
use Rattle.claim_bus.proofs.decode.agent_claims.Goals as goal

pub returns-then-g-eq255 : goal.returns-then-g-eq255
returns-then-g-eq255 c = search (host_asked, rules)

pub returns-then-g-bus : goal.returns-then-g-bus
returns-then-g-bus c = search (secondary_asked, rules)

pub returns-then-is_bridge : goal.returns-then-is_bridge
returns-then-is_bridge c = search (primary_asked, rules)

pub returns : goal.returns
returns c = search (device_asked, rules)
