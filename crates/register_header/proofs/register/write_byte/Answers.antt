use borrow.Author.Rules.{rules}
use Rattle.register_header.specs.definitions.Register.{write_byte}
use Rattle.register_header.proofs.Four.{byte_on, byte_past}
use Rattle.register_header.proofs.register.write_byte.Goals.{else-on-via-then-on+else-at-part, else-on-via-else-on}
use Rattle.register_header.proofs.register.write_byte.Goals as goal

pub returns-then-at-part : goal.returns-then-at-part
returns-then-at-part c = search (byte_on, rules)

pub returns-else-on : goal.returns-else-on
unfolding write_byte
returns-else-on c =
    elim c.else-on.branch [
      | else-on-via-then-on+else-at-part w ↦ byte_past c.args.n c.args.part.now c.args.at c.args.on c.args.put w.if-at-part.false
      | else-on-via-else-on w ↦ rw w.if-on.false
    ]
