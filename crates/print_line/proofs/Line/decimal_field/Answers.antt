use Rattle.std.proofs.Common.{refl, append_assoc, arith, length-append}
use Rattle.print_line.proofs.Digits.{decimal_ten}
use Rattle.print_line.proofs.Line.decimal_field.Goals as goal

pub decimal-requires : goal.decimal-requires
decimal-requires c = rw (c.byte.ensures, length-append) (omega (arith, decimal_ten c.args.x (omega arith)))

pub returns : goal.returns
returns c =
    rw (c.decimal.ensures, c.byte.ensures, append_assoc, length-append)
    (refl, omega (arith, decimal_ten c.args.x (omega arith)))
