use Rattle.claim_bus.proofs.Decoded.{bridge_is}
use borrow.Author.Rules.{rules}
use Rattle.claim_bus.proofs.decode.bridge_of.Goals as goal

pub returns : goal.returns
returns c = search (bridge_is, rules)
