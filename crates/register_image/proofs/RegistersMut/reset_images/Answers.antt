use borrow.Author.Rules.{rules}
use Rattle.register_image.specs.laws.ResetTurns.{reset_none}
use Rattle.register_image.proofs.Filled.{each_next, each_all}
use Rattle.register_image.proofs.RegistersMut.reset_images.Goals as goal

pub loop-i-init : goal.loop-i-init
loop-i-init c = (search rules, search (reset_none, rules))

pub loop-i-preserved : goal.loop-i-preserved
loop-i-preserved c = (search rules, search (each_next, rules))

pub returns-clause-leaves : goal.returns-clause-leaves
returns-clause-leaves c = search (each_all, rules)
