use borrow.Author.Rules.{rules}
use Rattle.route.proofs.Taken.{step_ends, step_spent, step_on, step_across, few_crossed}
use Rattle.route.proofs.route.+bridge_step_bus_step.Goals as goal

pub bridge_step-crossed_by-requires : goal.bridge_step-crossed_by-requires
bridge_step-crossed_by-requires t c = search (few_crossed, rules)

pub bridge_step-returns : goal.bridge_step-returns
bridge_step-returns t c = search (step_across, rules)

pub bus_step-returns-in-Ends : goal.bus_step-returns-in-Ends
bus_step-returns-in-Ends t c = search (step_ends, rules)

pub bus_step-returns-in-Crosses-clause-leaves : goal.bus_step-returns-in-Crosses-clause-leaves
bus_step-returns-in-Crosses-clause-leaves t c = search (step_spent, rules)

pub bus_step-returns-in-Crosses-2-clause-leaves : goal.bus_step-returns-in-Crosses-2-clause-leaves
bus_step-returns-in-Crosses-2-clause-leaves t c = search (step_on, rules)
