use Rattle.std.proofs.Common.{rules}
use Rattle.register_header.specs.definitions.Register.{set_status}
use Rattle.register_access.proofs.Past.{status_past}
use Rattle.register_access.proofs.status.set_status.Goals as goal

pub returns-then-at-part : goal.returns-then-at-part
unfolding set_status
returns-then-at-part c = cc

pub returns-else-at-part : goal.returns-else-at-part
returns-else-at-part c = search (status_past, rules)
