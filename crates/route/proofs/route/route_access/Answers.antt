use Rattle.route.proofs.Taken.{access_host, access_driven, access_silent}
use borrow.Author.Rules.{rules}
use Rattle.route.proofs.route.route_access.Goals as goal

pub returns-then-i-eq255-clause-leaves : goal.returns-then-i-eq255-clause-leaves
returns-then-i-eq255-clause-leaves c = search (access_host, rules)

pub returns-then-bit_at-clause-leaves : goal.returns-then-bit_at-clause-leaves
returns-then-bit_at-clause-leaves c = search (access_driven, rules)

pub returns-clause-leaves : goal.returns-clause-leaves
returns-clause-leaves c = search (access_silent, rules)
