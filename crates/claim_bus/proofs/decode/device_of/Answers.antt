use Rattle.claim_bus.proofs.Decoded.{device_is}
use borrow.Author.Rules.{rules}
use Rattle.claim_bus.proofs.decode.device_of.Goals as goal

pub returns : goal.returns
returns c = search (device_is, rules)
