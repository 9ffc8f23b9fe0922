use borrow.Author.Tests.{eq-eqb}
use mathlib.Core.Bool.{and-false}
use borrow.Author.Rules.{rules}
use Rattle.claim_bus.proofs.OnBus.{counted_is}
use Rattle.claim_bus.proofs.bus.counts.Goals as goal

pub returns-then-g-t : goal.returns-then-g-t
returns-then-g-t c = simp (eq-eqb _ _ c.if-g-t.true, and-false)

pub returns : goal.returns
returns c = search (counted_is, rules)
