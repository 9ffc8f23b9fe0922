use borrow.Author.Rules.{rules}
use Rattle.file_save.proofs.Whole.{rack_room, registers_room, saved_end, saved_out}
use Rattle.file_save.proofs.save.save.Goals as goal

pub put_rack-next-requires : goal.put_rack-next-requires
put_rack-next-requires c = search (rack_room, rules)

pub put_changed-requires : goal.put_changed-requires
put_changed-requires c = search (registers_room, rules)

pub returns : goal.returns
returns c = (search (saved_end, rules), search (saved_out, rules))
