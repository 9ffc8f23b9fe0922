use borrow.Author.Rules.{rules}
use Rattle.route.specs.definitions.Route.{configure}
use Rattle.route.proofs.route.route_configuration.Goals as goal

pub returns-clause-leaves : goal.returns-clause-leaves
unfolding configure
returns-clause-leaves c = search rules
