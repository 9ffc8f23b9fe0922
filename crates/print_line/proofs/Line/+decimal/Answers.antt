use Rattle.std.proofs.Common.{arith, length-append}
use Rattle.print_line.proofs.Digits.{decimal_one, decimal_more, decimal_once, decimal_longer}
use Rattle.print_line.proofs.Line.+decimal.Goals as goal

pub byte-requires : goal.byte-requires
byte-requires t c = omega (arith, decimal_once _ c.if-x-lt10.true)

pub returns-then-x-lt10 : goal.returns-then-x-lt10
returns-then-x-lt10 t c = decimal_one _ _ c.if-x-lt10.true c.byte.ensures

pub decimal-l-requires : goal.decimal-l-requires
decimal-l-requires t c = (omega arith, omega (arith, decimal_longer _ c.if-x-lt10.false))

pub byte-requires-2 : goal.byte-requires-2
byte-requires-2 t c = rw (c.decimal-l.ensures, length-append) (omega (arith, decimal_longer _ c.if-x-lt10.false))

pub returns : goal.returns
returns t c = decimal_more _ _ c.if-x-lt10.false c.decimal-l.ensures c.byte-2.ensures
