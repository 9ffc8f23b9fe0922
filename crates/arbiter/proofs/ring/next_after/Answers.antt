use Rattle.arbiter.proofs.Searched.{round_or_else}
use borrow.Author.Rules.{rules}
use Rattle.arbiter.proofs.ring.next_after.Goals as goal

pub returns : goal.returns
returns c = round_or_else _ _ c.first_from.result c.first_from.ensures c.or_else.ensures (λ k. search rules)
