use Rattle.std.proofs.Common.{sym, ap, ◌∙◌}
use Rattle.rack.specs.laws.RefusedLaws.{after_none}
use Rattle.call_table.specs.definitions.Call.{number_by, refusal_by}
use Rattle.call_table.proofs.Calling.{given_first, after_images, field_first, wrong_grants, right_grants}
use Rattle.call_table.proofs.refusal.refusal_by.Goals as goal

pub returns-in_err-refusal_of : goal.returns-in_err-refusal_of
unfolding refusal_by
returns-in_err-refusal_of g c n numbers fields =
    given_first n numbers _ c.from_residual.result _ c.from_residual.ensures.1 c.in_err-refusal_of.ensures

pub returns-in_err-image_refusal : goal.returns-in_err-image_refusal
unfolding refusal_by
returns-in_err-image_refusal g c n numbers fields =
    let x = c.from_residual-in_err-image_refusal in
    after_none _ c.in_ok-refusal_of.ensures (given_first n numbers _ x.result _ x.ensures.1 c.in_err-image_refusal.ensures)

pub returns-in_err-field : goal.returns-in_err-field
unfolding refusal_by
returns-in_err-field g c n numbers fields =
    let x = c.from_residual-in_err-field in
    let told = field_first n _ x.result x.ensures.1 c.args.field c.in_err-field.was fields in
    after_images c.in_ok-refusal_of.ensures c.in_ok-image_refusal.ensures told

pub returns-then-is_wrong : goal.returns-then-is_wrong
unfolding refusal_by
returns-then-is_wrong g c n numbers fields =
    let wrong = wrong_grants c.is_wrong.ensures _ c.if-is_wrong.true in
    let last = after_none _ (sym (ap (number_by n) c.in_ok-field.was)) wrong in
    numbers _ _ c.from.ensures ∙ after_images c.in_ok-refusal_of.ensures c.in_ok-image_refusal.ensures last

pub returns : goal.returns
unfolding refusal_by
returns g c n numbers fields =
    let right = right_grants c.is_wrong.ensures _ c.if-is_wrong.false in
    let last = after_none _ (sym (ap (number_by n) c.in_ok-field.was)) right in
    after_images c.in_ok-refusal_of.ensures c.in_ok-image_refusal.ensures last
