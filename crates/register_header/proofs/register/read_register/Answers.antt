use borrow.Author.Tests.{le-ltb}
use borrow.Author.Rules.{rules}
use Rattle.register_header.specs.definitions.Register.{read_register}
use Rattle.register_header.proofs.Four.{four_read}
use Rattle.register_header.proofs.register.read_register.Goals as goal

pub returns-then-register-lt64 : goal.returns-then-register-lt64
returns-then-register-lt64 c = search (four_read, rules)

pub returns : goal.returns
unfolding read_register
returns c = simp (le-ltb _ _ c.if-register-lt64.false)
