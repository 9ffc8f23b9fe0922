use Rattle.check_sweep.proofs.Reports.{bridge_holds, device_holds}
use borrow.Author.Rules.{rules}
use Rattle.check_sweep.proofs.buses.held_report.Goals as goal

pub returns-then-is_bridge : goal.returns-then-is_bridge
returns-then-is_bridge c = search (bridge_holds, rules)

pub returns : goal.returns
returns c = search (device_holds, rules)
