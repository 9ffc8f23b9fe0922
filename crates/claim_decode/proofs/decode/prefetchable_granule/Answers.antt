use Rattle.std.proofs.Common.{arith}
use borrow.Author.Rules.{rules}
use Rattle.claim_decode.proofs.Decoded.{prefetchable_is}
use Rattle.claim_decode.proofs.decode.prefetchable_granule.Goals as goal

pub returns-then-on : goal.returns-then-on
returns-then-on c = (search (prefetchable_is, rules), omega arith)
