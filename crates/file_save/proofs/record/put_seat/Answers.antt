use borrow.Author.Rules.{rules}
use Rattle.file_save.proofs.Puts.{put_same, put_none}
use Rattle.file_save.proofs.Records.{grant_is, grant_none, grant_room}
use Rattle.file_save.proofs.record.put_seat.Goals as goal

pub put_grant-requires : goal.put_grant-requires
put_grant-requires c = search (grant_room, rules)

pub returns-then-g : goal.returns-then-g
returns-then-g c = search (put_same, grant_is, rules)

pub returns : goal.returns
returns c = search (put_none, grant_none, rules)
