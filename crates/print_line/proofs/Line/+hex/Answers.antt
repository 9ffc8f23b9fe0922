use Rattle.std.proofs.Common.{◌-◌, ◌/◌, arith, length-append}
use Rattle.print_line.proofs.Digits.{hex_none, hex_more, hex_length}
use Rattle.print_line.proofs.Line.+hex.Goals as goal

pub returns-then-k-eq0 : goal.returns-then-k-eq0
returns-then-k-eq0 t c = hex_none _ _ _ c.if-k-eq0.true

pub byte-requires : goal.byte-requires
byte-requires t c = rw (c.hex-l.ensures, length-append) (omega (arith, hex_length (c.args.k - 1) (c.args.x / 16)))

pub returns : goal.returns
returns t c = hex_more _ _ _ c.if-k-eq0.false c.hex-l.ensures c.hex_digit.ensures c.byte.ensures
