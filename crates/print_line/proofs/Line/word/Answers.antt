use Rattle.std.proofs.Common.{rules}
use Rattle.print_line.proofs.Room.{put_long, put_text, put_room}
use Rattle.print_line.proofs.Line.word.Goals as goal

pub invariant_of-self : goal.invariant_of-self
invariant_of-self c = (search rules, search (put_long, rules), search (put_room, rules))

pub returns : goal.returns
returns c = search (put_text, rules)
