use Rattle.rackrun.proofs.Parts.{next_fits, next_bytes, part_later, part_printed}
use borrow.Author.Rules.{rules}
use Rattle.rackrun.proofs.print_part.Goals as goal

pub write_next-requires : goal.write_next-requires
write_next-requires c = (search rules, search (next_bytes, rules), search (next_fits, rules))

pub returns : goal.returns
returns c = record { prints_piece = search (part_printed, rules); writes_part = search (part_later, rules); same = search rules }
