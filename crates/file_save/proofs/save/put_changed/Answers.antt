use borrow.Author.Rules.{rules}
use Rattle.file_save.proofs.Puts.{puts_room, puts_next, puts_end}
use Rattle.file_save.proofs.save.put_changed.Goals as goal

pub put_registers-next-requires : goal.put_registers-next-requires
put_registers-next-requires c = search (puts_room, rules)

pub loop-i-preserved : goal.loop-i-preserved
loop-i-preserved c = search (puts_next, rules)

pub returns : goal.returns
returns c = search (puts_end, rules)
