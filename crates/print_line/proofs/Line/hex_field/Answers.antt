use Rattle.std.proofs.Common.{refl, append_assoc, arith, length-append}
use Rattle.print_line.proofs.Digits.{hex_length}
use Rattle.print_line.proofs.Line.hex_field.Goals as goal

pub returns : goal.returns
returns c =
    rw (c.hex.ensures, c.byte.ensures, append_assoc, length-append)
    (refl, omega (arith, hex_length c.args.k c.args.x))
