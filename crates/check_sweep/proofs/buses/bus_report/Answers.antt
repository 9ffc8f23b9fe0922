use borrow.Author.Rules.{rules}
use Rattle.check_sweep.proofs.Reports.{few_pass}
use Rattle.check_sweep.proofs.buses.bus_report.Goals as goal

pub returns-then-n-le2 : goal.returns-then-n-le2
returns-then-n-le2 c = search (few_pass, rules)
