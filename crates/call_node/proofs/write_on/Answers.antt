use Rattle.std.proofs.Common.{refl, ap, ◌∙◌}
use Rattle.rack.specs.definitions.Refused.{number_of}
use Rattle.rack.specs.laws.RefusedLaws.{refusal_not_0, handed_on}
use Rattle.call_table.specs.definitions.Call.{stored_in}
use Rattle.call_table.specs.laws.HandedBack.{is_refused, is_given, is_number, is_none}
use Rattle.call_node.proofs.write_on.Goals as goal

pub returns-in_err-refused_by-clause-leaves : goal.returns-in_err-refused_by-clause-leaves
unfolding stored_in
returns-in_err-refused_by-clause-leaves c =
    let h = rw (c.lent.ensures.table, c.lent.ensures.bridges, c.lent.ensures.devices) at c.in_err-refused_by.ensures in (
      ap number_of (handed_on c.from_residual.result c.from_residual.ensures.1)
          ∙ is_number _ _ _ _ _ c.store_refusal-field.ensures refl h,
      is_refused _ _ _ _ _ c.store_refusal-field.ensures refl _ _ h
          (refusal_not_0 c.in_err-refused_by.field-0.0) refl,
    )

pub returns-clause-leaves : goal.returns-clause-leaves
unfolding stored_in
returns-clause-leaves c =
    let h = rw (c.lent.ensures.table, c.lent.ensures.bridges, c.lent.ensures.devices) at c.in_ok-refused_by.ensures in (
      is_none _ _ _ _ _ c.store_refusal-field.ensures refl h refl,
      is_given _ _ _ _ _ c.store_refusal-field.ensures refl _ _ h refl c.store_node.ensures.leaves,
    )
