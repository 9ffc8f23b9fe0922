use Rattle.std.proofs.Common.{refl}
use Rattle.rack.specs.laws.RefusedLaws.{refusal_not_0}
use Rattle.call_table.specs.definitions.Call.{view_in}
use Rattle.call_table.specs.laws.HandedBack.{is_refused, is_given}
use Rattle.call_node.proofs.view_on.Goals as goal

pub returns-in-Ok : goal.returns-in-Ok
unfolding view_in
returns-in-Ok c = is_given _ _ _ _ _ c.view_refusal-field.ensures refl _ _ c.in-Ok.ensures refl c.view.ensures

pub returns-in-Err : goal.returns-in-Err
unfolding view_in
returns-in-Err c =
    is_refused _ _ _ _ _ c.view_refusal-field.ensures refl _ _ c.in-Err.ensures (refusal_not_0 c.in-Err.field-0) refl
