use Rattle.arbiter.proofs.Stepped.{low_granted, none_granted, high_granted}
use Rattle.arbiter.proofs.step.Goals as goal

pub returns-in_default : goal.returns-in_default
returns-in_default c = none_granted _ _ _ _ _ c.low_requests.ensures c.next_after-low.ensures c.is_some.ensures c.high_requests.ensures c.next_after.ensures c.in_default.is

pub returns-then-place-eq-LOW_PLACE : goal.returns-then-place-eq-LOW_PLACE
returns-then-place-eq-LOW_PLACE c = low_granted _ _ _ _ _ c.low_requests.ensures c.next_after-low.ensures c.is_some.ensures c.high_requests.ensures c.next_after.ensures c.in-Some.is c.if-place-eq-LOW_PLACE.true c.unwrap_or.ensures

pub returns : goal.returns
returns c = high_granted _ _ _ _ _ c.low_requests.ensures c.next_after-low.ensures c.is_some.ensures c.high_requests.ensures c.next_after.ensures c.in-Some.is c.if-place-eq-LOW_PLACE.false
