use borrow.Author.Rules.{rules}
use Rattle.register_header.proofs.Back.{back_seen, back_written}
use Rattle.register_header.proofs.sizing.read_back.Goals as goal

pub returns : goal.returns
returns c = (search (back_seen, rules), search (back_written, rules))
