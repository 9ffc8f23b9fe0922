use Rattle.std.proofs.Common.{arith, refl}
use borrow.Author.Tests.{le-ltb}
use Rattle.register_header.specs.definitions.Register.{write_register}
use Rattle.register_header.proofs.Four.{stored, stored_more, stored_all}
use Rattle.register_header.proofs.register.write_register.Goals as goal

pub loop-i-init : goal.loop-i-init
unfolding stored
loop-i-init c = refl

pub loop-i-preserved : goal.loop-i-preserved
loop-i-preserved c = stored_more _ _ _ _ _ _ (omega arith) c.loop-i.invariant c.bit_at.ensures c.write_byte.ensures

pub returns-after-loop-i : goal.returns-after-loop-i
returns-after-loop-i c =
    let a = c.args in
    stored_all a.n a.part.now a.register a.enables a.put {i = c.loop-i.i} c.if-register-lt64.true (omega arith) (rw (← c.to_le_bytes-bytes.ensures) c.loop-i.invariant)

pub returns-else-register-lt64 : goal.returns-else-register-lt64
unfolding write_register
returns-else-register-lt64 c = simp (le-ltb _ _ c.if-register-lt64.false)
