use Rattle.claim_bus.proofs.OnBus.{agent_host, agent_secondary, agent_primary, agent_device}
use borrow.Author.Rules.{rules}
use Rattle.claim_bus.proofs.decode.agent_at.Goals as goal

pub returns-then-g-eq255 : goal.returns-then-g-eq255
returns-then-g-eq255 c = search (agent_host, rules)

pub returns-then-g-bus : goal.returns-then-g-bus
returns-then-g-bus c = search (agent_secondary, rules)

pub returns-then-is_bridge : goal.returns-then-is_bridge
returns-then-is_bridge c = search (agent_primary, rules)

pub returns : goal.returns
returns c = search (agent_device, rules)
