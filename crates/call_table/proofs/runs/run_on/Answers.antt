use Rattle.std.proofs.Common.{refl, ap}
use Rattle.rack.specs.laws.RefusedLaws.{refusal_not_0, handed_on}
use Rattle.register_image.specs.definitions.Image.{result_of}
use Rattle.call_table.specs.definitions.Call.{numbered, ran, run_in}
use Rattle.call_table.specs.laws.HandedBack.{is_refused, is_given}
use Rattle.call_table.proofs.Calling.{accepted_rack}
use Rattle.call_table.proofs.runs.run_on.Goals as goal

pub returns-in_err-refused_by-clause-leaves : goal.returns-in_err-refused_by-clause-leaves
unfolding run_in
returns-in_err-refused_by-clause-leaves c =
    let h = rw (c.lent.ensures.table, c.lent.ensures.bridges, c.lent.ensures.devices) at c.in_err-refused_by.ensures in
    is_refused _ _ _ _ _ c.event_refusal-field.ensures c.seat_refusal-unknown.ensures _ _ h
    (refusal_not_0 c.in_err-refused_by.field-0.0)
    (ap (λ p. result_of (numbered p) c.args.registers.now.bridges.now c.args.registers.now.devices.now) (handed_on c.from_residual.result c.from_residual.ensures.1))

pub answer_event-requires : goal.answer_event-requires
answer_event-requires c = let h = rw (c.lent.ensures.table, c.lent.ensures.bridges, c.lent.ensures.devices) at c.in_ok-refused_by.ensures in accepted_rack _ _ _ _ _ h

pub returns-clause-leaves : goal.returns-clause-leaves
unfolding run_in
returns-clause-leaves c =
    let h = rw (c.lent.ensures.table, c.lent.ensures.bridges, c.lent.ensures.devices) at c.in_ok-refused_by.ensures in
    is_given _ _ _ _ _ c.event_refusal-field.ensures c.seat_refusal-unknown.ensures _ _ h refl
    (ap ran c.answer_event.ensures.leaves)
