use Rattle.arbiter.proofs.Requests.{high_set, high_set_low}
use Rattle.arbiter.proofs.ring.high_requests.Goals as goal

pub returns-then-low : goal.returns-then-low
returns-then-low c = high_set_low _ _ c.requires c.if-low.true

pub returns-else-low : goal.returns-else-low
returns-else-low c = high_set _ _ c.requires c.if-low.false
