use Rattle.std.proofs.lemmas.Result.{err_from_is_err_and}
use Rattle.check_sweep.proofs.Reports.{configuration_found, memory_found, io_left}
use Rattle.check_sweep.proofs.buses.spaces_report.Goals as goal

pub returns-in_err-sweep : goal.returns-in_err-sweep
returns-in_err-sweep c =
    let p = err_from_is_err_and c.from_residual.result c.from_residual.ensures.1 in
    rw (p.1, p.2) (configuration_found _ _ _ c.sweep.ensures c.in_err-sweep.was)

pub returns-in_err-sweep-2 : goal.returns-in_err-sweep-2
returns-in_err-sweep-2 c =
    let p = err_from_is_err_and c.from_residual-in_err-sweep-2.result c.from_residual-in_err-sweep-2.ensures.1 in
    rw (p.1, p.2) (memory_found _ _ _ c.sweep.ensures c.in_ok-sweep.was c.sweep-2.ensures c.in_err-sweep-2.was)

pub returns : goal.returns
returns c = io_left _ _ _ c.sweep.ensures c.in_ok-sweep.was c.sweep-2.ensures c.in_ok-sweep-2.was c.sweep-3.ensures
