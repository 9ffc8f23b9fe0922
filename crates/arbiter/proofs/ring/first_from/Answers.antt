use Rattle.arbiter.proofs.Searched.{found_here, found_later, found_nowhere}
use Rattle.arbiter.proofs.ring.first_from.Goals as goal

pub returns-then-has : goal.returns-then-has
returns-then-has c = found_here _ _ _ c.loop-place.invariant c.loop-place-test.true c.has.ensures c.if-has.true

pub loop-place-preserved : goal.loop-place-preserved
loop-place-preserved c = found_later _ _ _ c.loop-place.invariant c.loop-place-test.true c.has.ensures c.if-has.false

pub returns : goal.returns
returns c = found_nowhere _ _ _ c.loop-place.invariant c.loop-place-test.false
