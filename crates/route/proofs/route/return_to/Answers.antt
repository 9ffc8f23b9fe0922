use Rattle.route.proofs.Taken.{returned_other, returned_unclaimed}
use borrow.Author.Rules.{rules}
use Rattle.route.proofs.route.return_to.Goals as goal

pub returns-in_default-clause-leaves : goal.returns-in_default-clause-leaves
returns-in_default-clause-leaves c = search (returned_other, rules)

pub returns-clause-leaves : goal.returns-clause-leaves
returns-clause-leaves c = search (returned_unclaimed, rules)
