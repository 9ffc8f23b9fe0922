use mathlib.Core.Path.{refl}
use borrow.Author.Rules.{rules}
use Rattle.rack.specs.laws.FirstLaws.{none_yet, none_next, first_found, none_found}
use Rattle.rack.specs.laws.RefusedLaws.{refusal_not_0, handed_on}
use Rattle.rack_refusals.proofs.refusal_of.Goals as goal

pub loop-i-init : goal.loop-i-init
loop-i-init c = search (none_yet, rules)

pub returns-in_err-node_refusal : goal.returns-in_err-node_refusal
returns-in_err-node_refusal c =
    rw (handed_on c.from_residual.result c.from_residual.ensures.1)
    (first_found _ c.loop-i.invariant c.count_of-end.ensures c.loop-i-test.true c.in_err-node_refusal.ensures (refusal_not_0 _))

pub loop-i-preserved : goal.loop-i-preserved
loop-i-preserved c = none_next _ c.loop-i.invariant c.loop-i-test.true c.in_ok-node_refusal.ensures refl

pub returns : goal.returns
returns c = search (none_found, rules)
