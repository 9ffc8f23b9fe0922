use Rattle.arbiter.proofs.States.{high_state, high_state_else}
use Rattle.arbiter.proofs.is_high_state.Goals as goal

pub returns-then-last-lt-MEMBERS : goal.returns-then-last-lt-MEMBERS
returns-then-last-lt-MEMBERS c = high_state _ _ c.if-last-lt-MEMBERS.true c.has.ensures

pub returns : goal.returns
returns c = high_state_else _ _ c.if-last-lt-MEMBERS.false
