use borrow.Author.Rules.{rules}
use mathlib.Core.Path.{refl, sym, ◌∙◌}
use Rattle.bench.proofs.Measured.{told_not_0, none_is_0, refused_shown, more_shown, last_shown}
use Rattle.bench.proofs.bench_check.Goals as goal

pub returns-then-is_err : goal.returns-then-is_err
returns-then-is_err c = refused_shown _ _ _ c.refusal_of.ensures (told_not_0 _ c.if-is_err.ensures.value)

pub loop-init : goal.loop-init
loop-init c = (sym c.refusal_of.ensures ∙ none_is_0 _ c.if-is_err.ensures.value, refl)

pub loop-preserved : goal.loop-preserved
loop-preserved c = (c.loop.invariant.0, more_shown _ _ c.loop.counter c.checked-shown.ensures)

pub returns : goal.returns
returns c = last_shown _ _ _ c.loop.invariant.0 (search rules) (search rules) c.loop.invariant.1
