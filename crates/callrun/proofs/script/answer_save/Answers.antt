use mathlib.Core.Path.{sym}
use lib.Seq.{length-take-le}
use borrow.Author.Rules.{rules}
use Rattle.callrun.proofs.script.answer_save.Goals as goal

pub slice_bounds-answer_into-end : goal.slice_bounds-answer_into-end
slice_bounds-answer_into-end c = sym (length-take-le _ _ (search rules))
