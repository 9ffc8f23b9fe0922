use Rattle.std.proofs.lemmas.Result.{err_from_is_err_and}
use Rattle.check_search.specs.laws.FirstLaws.{in_found, in_next}
use Rattle.check_search.proofs.drivers.agents_drive.Goals as goal

pub returns-in_err-driven_by : goal.returns-in_err-driven_by
returns-in_err-driven_by c =
    let p = err_from_is_err_and c.from_residual.result c.from_residual.ensures.1 in
    rw (p.1, p.2) (in_found _ _ _ c.driven_by.ensures c.in_err-driven_by.was)

pub returns : goal.returns
returns c = in_next _ _ _ c.driven_by.ensures c.in_ok-driven_by.was c.nodes_drive.ensures
