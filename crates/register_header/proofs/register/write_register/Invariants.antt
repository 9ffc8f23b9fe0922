use Rattle.std.proofs.Common.{◌≡◌}
use Rattle.register_header.proofs.Four.{stored}
use Rattle.register_header.proofs.register.write_register.Given as goal

abbrev pub invariant-loop-i : goal.invariant-loop-i
invariant-loop-i l = l.part ≡ stored l.n l.fn.part l.at l.enables l.bytes l.i
