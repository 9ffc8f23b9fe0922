use Rattle.std.proofs.Common.{refl, ap, ◌∙◌}
use Rattle.rack.specs.laws.RefusedLaws.{refusal_not_0, handed_on}
use Rattle.call_table.specs.definitions.Call.{numbered}
use Rattle.call_save.proofs.Saving.{refused_number, refused_buffer, saved_room, short_number, short_buffer, file_long, saved_buffer, saved_number}
use Rattle.call_save.proofs.save_on.Goals as goal

pub returns-in_err-refused_by : goal.returns-in_err-refused_by
returns-in_err-refused_by c =
    let bad = refusal_not_0 c.in_err-refused_by.field-0.0 in (
      ap numbered (handed_on c.from_residual.result c.from_residual.ensures.1)
          ∙ refused_number _ _ _ c.in_err-refused_by.ensures bad _,
      refused_buffer _ _ _ c.in_err-refused_by.ensures bad _,
    )

pub save-n-requires : goal.save-n-requires
save-n-requires c = saved_room _ _ _ c.in_ok-refused_by.ensures refl _ c.longest-space.ensures

pub returns-then-out-n : goal.returns-then-out-n
returns-then-out-n c = (
  short_number _ _ _ c.in_ok-refused_by.ensures refl c.save-n.ensures.0 _ c.if-out-n.true,
  short_buffer _ _ _ c.in_ok-refused_by.ensures refl c.save-n.ensures.0 _ c.if-out-n.true,
)

pub copy_start-requires : goal.copy_start-requires
copy_start-requires c =
    (file_long _ _ _ c.in_ok-refused_by.ensures refl c.save-n.ensures.0 _ c.save-n.ensures.1, c.if-out-n.false)

pub returns : goal.returns
returns c = (
  saved_number _ _ _ c.in_ok-refused_by.ensures refl c.save-n.ensures.0 _ c.if-out-n.false,
  saved_buffer _ _ _ c.in_ok-refused_by.ensures refl c.save-n.ensures.0 _ c.save-n.ensures.1 _ c.if-out-n.false c.copy_start.ensures,
)
