use Rattle.std.proofs.Common.{rules}
use Rattle.register_access.proofs.Sized.{size_io, size_memory, size_wide, size_none, same, same_wide}
use Rattle.register_access.proofs.sizing.size_part.Goals as goal

pub returns-in-1 : goal.returns-in-1
returns-in-1 c = (search (size_io, rules), search (same, rules))

pub returns-in-2 : goal.returns-in-2
returns-in-2 c = (search (size_memory, rules), search (same, rules))

pub returns-in-3 : goal.returns-in-3
returns-in-3 c = (search (size_wide, rules), search (same_wide, rules))

pub returns-in_default : goal.returns-in_default
returns-in_default c = (search (size_none, rules), search rules)
