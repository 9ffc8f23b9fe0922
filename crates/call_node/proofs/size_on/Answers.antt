use Rattle.std.proofs.Common.{refl, ap}
use Rattle.std.specs.Prelude.{Ok}
use Rattle.call_table.specs.definitions.Call.{size_in}
use Rattle.call_table.specs.laws.HandedBack.{is_handed_on, is_given}
use Rattle.call_node.proofs.size_on.Goals as goal

pub returns-in_err-refused_by-clause-leaves : goal.returns-in_err-refused_by-clause-leaves
unfolding size_in
returns-in_err-refused_by-clause-leaves c =
    let h = rw (c.lent.ensures.table, c.lent.ensures.bridges, c.lent.ensures.devices) at c.in_err-refused_by.ensures in (
      is_handed_on _ _ _ _ _ c.region_refusal-field.ensures refl _ _ c.from_residual.result h c.from_residual.ensures.1,
      refl,
    )

pub returns-clause-leaves : goal.returns-clause-leaves
unfolding size_in
returns-clause-leaves c =
    let h = rw (c.lent.ensures.table, c.lent.ensures.bridges, c.lent.ensures.devices) at c.in_ok-refused_by.ensures in (
      is_given _ _ _ _ _ c.region_refusal-field.ensures refl _ _ h refl (ap Ok c.size_region.ensures.leaves.0),
      c.size_region.ensures.leaves.1,
    )
