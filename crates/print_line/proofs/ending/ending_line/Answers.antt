use Rattle.std.proofs.Common.{refl}
use Rattle.print_line.specs.definitions.Text.{codes_of}
use Rattle.print_line.specs.definitions.Line.{spaced, ending_fields}
use Rattle.print_line.proofs.ending.ending_line.Goals as goal

pub returns-in-Clash : goal.returns-in-Clash
unfolding codes_of spaced ending_fields
returns-in-Clash c =
    rw (
      c.byte-in-Clash.ensures,
      c.decimal_field-in-Clash-4.ensures.0,
      c.decimal_field-in-Clash-3.ensures.0,
      c.decimal_field-in-Clash-2.ensures.0,
      c.decimal_field-in-Clash.ensures.0,
      c.begun-in-Clash.ensures.0,
      c.in-Clash.is,
    ) refl
