use Rattle.std.proofs.Common.{refl}
use Rattle.print_line.specs.definitions.Text.{codes_of}
use Rattle.print_line.specs.definitions.Line.{spaced, report_fields}
use Rattle.print_line.proofs.report.report_line.Goals as goal

pub returns-in-Err : goal.returns-in-Err
unfolding codes_of spaced report_fields
returns-in-Err c =
    rw (
      c.byte-in-Err.ensures,
      c.decimal_field-in-Err-3.ensures.0,
      c.decimal_field-in-Err-2.ensures.0,
      c.decimal_field-in-Err.ensures.0,
      c.hex_field.ensures.0,
      c.word_field.ensures.0,
      c.space_word.ensures.0,
      c.decimal_field.ensures.0,
      c.begun-in-Err.ensures.0,
      c.in-Err.is,
    ) refl
