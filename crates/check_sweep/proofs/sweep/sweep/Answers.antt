use mathlib.Core.Path.{refl}
use native.Mathlib.Omega.{arith}
use borrow.Author.Rules.{rules}
use Rattle.std.proofs.lemmas.Result.{err_from_is_err_and}
use Rattle.check_sweep.proofs.Seen.{counts_one, seen_none, seen_more, seen_less, seen_few, seen_found, seen_on, seen_end}
use Rattle.check_sweep.proofs.sweep.sweep.Goals as goal

pub loop-agent-init : goal.loop-agent-init
loop-agent-init c = (search rules, refl)

pub loop-agent-2-init : goal.loop-agent-2-init
loop-agent-2-init c = search (seen_none, rules)

pub overflow_add-claiming : goal.overflow_add-claiming
overflow_add-claiming c = omega (arith, (counts_one c.verdict-v.result.claims).1)

pub loop-agent-2-preserved : goal.loop-agent-2-preserved
loop-agent-2-preserved c =
    seen_more _ _ _ _ _ _ refl c.loop-agent-2-test.true c.loop-agent-2.invariant c.verdict-v.ensures.0 c.verdict-v.ensures.1 c.from-claiming.ensures

pub found_at-requires : goal.found_at-requires
found_at-requires c = seen_few _ _ _ _ _ _ _ _ c.requires.2 c.requires.0 c.loop-agent-2-test.false c.loop-agent-2.invariant

pub returns-in_err-found_at : goal.returns-in_err-found_at
returns-in_err-found_at c =
    let p = err_from_is_err_and c.from_residual.result c.from_residual.ensures.1 in
    let inv = c.loop-agent.invariant in
    rw (p.1, p.2) (seen_found _ _ _ _ _ _ inv.0 inv.1 c.found_at.ensures c.in_err-found_at.was)

pub returns-then-last-until : goal.returns-then-last-until
returns-then-last-until c =
    let inv = c.loop-agent.invariant in
    seen_end _ _ _ _ _ _ _ _ c.requires.2 c.requires.0 c.loop-agent-2-test.false c.loop-agent-2.invariant inv.0 inv.1
    c.found_at.ensures c.in_ok-found_at.was c.if-last-until.true

pub loop-agent-smaller : goal.loop-agent-smaller
loop-agent-smaller c = search (seen_less, rules)

pub loop-agent-preserved : goal.loop-agent-preserved
loop-agent-preserved c =
    let inv = c.loop-agent.invariant in (
      omega arith,
      seen_on _ _ _ _ _ _ _ _ c.requires.2 c.requires.0 c.loop-agent-2-test.false c.loop-agent-2.invariant inv.0 inv.1
          c.found_at.ensures c.in_ok-found_at.was,
    )
