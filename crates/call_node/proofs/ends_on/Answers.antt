use Rattle.std.proofs.Common.{refl, ap}
use Rattle.std.specs.Prelude.{Ok}
use Rattle.call_table.specs.definitions.Call.{ends_in}
use Rattle.call_table.specs.laws.HandedBack.{is_handed_on, is_given}
use Rattle.call_node.proofs.ends_on.Goals as goal

pub returns-in_err-refused_by : goal.returns-in_err-refused_by
unfolding ends_in
returns-in_err-refused_by c =
    is_handed_on _ _ _ _ _ c.window_refusal-field.ensures refl _ _ c.from_residual.result c.in_err-refused_by.ensures c.from_residual.ensures.1

pub returns : goal.returns
unfolding ends_in
returns c = is_given _ _ _ _ _ c.window_refusal-field.ensures refl _ _ c.in_ok-refused_by.ensures refl (ap Ok c.window_ends.ensures)
