use borrow.Author.Rules.{rules}
use Rattle.claim_decode.proofs.Decoded.{windows_is}
use Rattle.claim_decode.proofs.decode.windows_of.Goals as goal

pub returns : goal.returns
returns c = search (windows_is, rules)
