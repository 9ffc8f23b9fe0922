use Rattle.std.proofs.Common.{refl, ap, ◌∙◌}
use Rattle.std.specs.Prelude.{Ok}
use Rattle.call_table.specs.definitions.Call.{read_in}
use Rattle.call_table.specs.laws.HandedBack.{is_handed_on, is_given}
use Rattle.call_node.proofs.Told.{read_of}
use Rattle.call_node.proofs.read_on.Goals as goal

pub returns-in_err-refused_by : goal.returns-in_err-refused_by
unfolding read_in
returns-in_err-refused_by c =
    is_handed_on _ _ _ _ _ c.read_refusal-field.ensures refl _ _ c.from_residual.result c.in_err-refused_by.ensures c.from_residual.ensures.1

pub returns : goal.returns
unfolding read_in
returns c = is_given _ _ _ _ _ c.read_refusal-field.ensures refl _ _ c.in_ok-refused_by.ensures refl
    (ap Ok (c.from.ensures ∙ read_of _ c.view-part.ensures c.read_register.ensures))
