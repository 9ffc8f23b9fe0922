use Rattle.std.proofs.Common.{refl, ap}
use Rattle.std.specs.Prelude.{Ok}
use Rattle.event_run.specs.declared.Answer.TheVariants.{Checked}
use Rattle.check_search.specs.definitions.Report.{Report}
use Rattle.call_table.specs.definitions.Call.{check_in}
use Rattle.call_table.specs.laws.HandedBack.{is_handed_on, is_given}
use Rattle.call_table.proofs.Calling.{accepted_rack}
use Rattle.call_table.proofs.runs.check_on.Goals as goal

pub returns-in_err-refused_by : goal.returns-in_err-refused_by
unfolding check_in
returns-in_err-refused_by c =
    is_handed_on _ _ _ _ _ refl refl _ _ c.from_residual.result c.in_err-refused_by.ensures c.from_residual.ensures.1

pub check_rack-r-requires : goal.check_rack-r-requires
check_rack-r-requires c = accepted_rack _ _ _ _ _ c.in_ok-refused_by.ensures

pub returns : goal.returns
unfolding check_in
returns c =
    is_given _ _ _ _ _ refl refl _ _ c.in_ok-refused_by.ensures refl (ap (λ (r : Report). Ok (Checked r)) c.check_rack-r.ensures)
