use mathlib.Core.Path.{refl}
use borrow.Author.Rules.{rules}
use Rattle.register_image.proofs.Filled.{bytes_next, bytes_none}
use Rattle.register_image.proofs.reset.reset_part.Goals as goal

pub loop-at-init : goal.loop-at-init
loop-at-init c = (search rules, search rules, refl)

pub loop-at-preserved : goal.loop-at-preserved
loop-at-preserved c = (search rules, search rules, search (bytes_next, rules))

pub returns : goal.returns
returns c = search (bytes_none, rules)
