use borrow.Author.Rules.{rules}
use Rattle.file_save.proofs.Puts.{put_copied}
use Rattle.file_save.proofs.put.put.Goals as goal

pub returns : goal.returns
returns c = search (put_copied, rules)
