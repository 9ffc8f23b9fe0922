use mathlib.Core.Path.{sym}
use Rattle.check_search.proofs.drivers.found_at.Goals as goal

pub returns-then-claiming-le1 : goal.returns-then-claiming-le1
returns-then-claiming-le1 c = sym (c.requires c.if-claiming-le1.true)
