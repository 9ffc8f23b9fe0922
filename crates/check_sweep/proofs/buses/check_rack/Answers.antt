use borrow.Author.Rules.{rules}
use Rattle.std.proofs.lemmas.Result.{err_from_is_err_and}
use Rattle.rack_laws.specs.laws.Agents.{agents_few}
use Rattle.check_sweep.proofs.Reports.{root_found, root_left, held_found, held_left, none_found}
use Rattle.check_sweep.proofs.buses.check_rack.Goals as goal

pub bus_report-requires : goal.bus_report-requires
bus_report-requires c = search (agents_few, rules)

pub returns-in_err-bus_report : goal.returns-in_err-bus_report
returns-in_err-bus_report c =
    let p = err_from_is_err_and c.from_residual.result c.from_residual.ensures.1 in
    rw (p.1, p.2) (root_found _ _ c.bus_report.ensures c.in_err-bus_report.was)

pub loop-i-init : goal.loop-i-init
loop-i-init c = root_left _ _ c.bus_report.ensures c.in_ok-bus_report.was

pub held_report-requires : goal.held_report-requires
held_report-requires c = search (agents_few, rules)

pub returns-in_err-held_report : goal.returns-in_err-held_report
returns-in_err-held_report c =
    let p = err_from_is_err_and c.from_residual-in_err-held_report.result c.from_residual-in_err-held_report.ensures.1 in
    rw (p.1, p.2)
    (held_found _ _ c.loop-i.invariant c.count_of-count.ensures c.loop-i-test.true c.held_report.ensures c.in_err-held_report.was)

pub loop-i-preserved : goal.loop-i-preserved
loop-i-preserved c = held_left _ _ c.loop-i.invariant c.count_of-count.ensures c.loop-i-test.true c.held_report.ensures c.in_ok-held_report.was

pub returns : goal.returns
returns c = search (none_found, rules)
