use Rattle.arbiter.proofs.States.{low_state, low_state_else}
use Rattle.arbiter.proofs.is_low_state.Goals as goal

pub returns-then-last-lt-MEMBERS : goal.returns-then-last-lt-MEMBERS
returns-then-last-lt-MEMBERS c = low_state _ _ c.if-last-lt-MEMBERS.true c.has.ensures

pub returns : goal.returns
returns c = low_state_else _ _ c.if-last-lt-MEMBERS.false
