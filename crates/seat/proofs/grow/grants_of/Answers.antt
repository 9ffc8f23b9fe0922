use Rattle.seat.proofs.Filled.{to_none, to_more, to_sound, to_faulty}
use borrow.Author.Rules.{rules}
use Rattle.seat.proofs.grow.grants_of.Goals as goal

pub loop-at-init : goal.loop-at-init
loop-at-init c = (search rules, search (to_none, rules))

pub loop-at-preserved : goal.loop-at-preserved
loop-at-preserved c = (search rules, search (to_more, rules))

pub returns-then-names_missing : goal.returns-then-names_missing
returns-then-names_missing c = search (to_faulty, rules)

pub returns-else-names_missing : goal.returns-else-names_missing
returns-else-names_missing c = search (to_sound, rules)
