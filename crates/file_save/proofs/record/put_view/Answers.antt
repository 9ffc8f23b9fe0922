use borrow.Author.Rules.{rules}
use Rattle.file_save.proofs.Puts.{put_two}
use Rattle.file_save.proofs.record.put_view.Goals as goal

pub returns : goal.returns
returns c = search (put_two, rules)
