use Rattle.route_bus.proofs.Owned.{owned_host, owned_bridge, owned_device}
use borrow.Author.Rules.{rules}
use Rattle.route_bus.proofs.look.owned_by.Goals as goal

pub returns-then-g-eq255 : goal.returns-then-g-eq255
returns-then-g-eq255 c = search (owned_host, rules)

pub returns-then-is_bridge : goal.returns-then-is_bridge
returns-then-is_bridge c = search (owned_bridge, rules)

pub returns : goal.returns
returns c = search (owned_device, rules)
