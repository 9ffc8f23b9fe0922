use borrow.Author.Rules.{rules}
use Rattle.register_image.specs.laws.ResetTurns.{reset_none, reset_next, reset_all}
use Rattle.bus_reset.proofs.store.reset_below.Goals as goal

pub loop-i-init : goal.loop-i-init
loop-i-init c = (search rules, search (reset_none, rules))

pub loop-i-preserved : goal.loop-i-preserved
loop-i-preserved c = (search rules, search (reset_next, rules))

pub returns-clause-leaves : goal.returns-clause-leaves
returns-clause-leaves c = search (reset_all, rules)
