use Rattle.arbiter.proofs.Answered.{refused_told, few_requests, answered}
use Rattle.arbiter.proofs.arbitrate.Goals as goal

pub returns-then-refused : goal.returns-then-refused
returns-then-refused c = refused_told _ _ _ c.refused.ensures c.if-refused.true

pub step-requires : goal.step-requires
step-requires c = few_requests _ _ _ c.refused.ensures c.if-refused.false

pub returns : goal.returns
returns c = answered _ _ _ c.refused.ensures c.if-refused.false c.step.ensures
