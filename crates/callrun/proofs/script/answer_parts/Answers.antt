use mathlib.Core.Path.{sym}
use lib.Seq.{length-take-le}
use borrow.Author.Rules.{rules}
use Rattle.callrun.proofs.script.answer_parts.Goals as goal

pub slice_bounds-answer_call-end-2 : goal.slice_bounds-answer_call-end-2
slice_bounds-answer_call-end-2 c = sym (length-take-le _ _ (search rules))

pub slice_bounds-answer_call-end-4 : goal.slice_bounds-answer_call-end-4
slice_bounds-answer_call-end-4 c = sym (length-take-le _ _ (search rules))
