use borrow.Author.Rules.{rules}
use Rattle.file_save.proofs.Puts.{put_same, put_none}
use Rattle.file_save.proofs.Records.{view_is, view_none, view_room}
use Rattle.file_save.proofs.record.put_registers.Goals as goal

pub put_view-requires : goal.put_view-requires
put_view-requires c = search (view_room, rules)

pub returns-then-is_changed : goal.returns-then-is_changed
returns-then-is_changed c = search (put_same, view_is, rules)

pub returns : goal.returns
returns c = search (put_none, view_none, rules)
