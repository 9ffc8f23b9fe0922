use borrow.Author.Rules.{rules}
use Rattle.claim_decode.proofs.Decoded.{value_wide, value_dword}
use Rattle.claim_decode.proofs.region.region_value.Goals as goal

pub returns-then-kind-eq3 : goal.returns-then-kind-eq3
returns-then-kind-eq3 c = search (value_wide, rules)

pub returns-else-kind-eq3 : goal.returns-else-kind-eq3
returns-else-kind-eq3 c = search (value_dword, rules)
