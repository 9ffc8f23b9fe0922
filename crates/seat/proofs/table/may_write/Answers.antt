use Rattle.seat.proofs.Asked.{may_high, may_by_grant}
use borrow.Author.Rules.{rules}
use Rattle.seat.proofs.table.may_write.Goals as goal

pub returns-then-register-ge64 : goal.returns-then-register-ge64
returns-then-register-ge64 c = may_high _ _ _ _ (search rules)

pub returns : goal.returns
returns c = search (may_by_grant, rules)
