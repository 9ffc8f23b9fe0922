use borrow.Author.Rules.{rules}
use Rattle.std.proofs.lemmas.Result.{err_from_is_err_and}
use Rattle.check_search.specs.laws.FirstLaws.{nodes_yet, nodes_off, nodes_next, nodes_found, nodes_end}
use Rattle.check_search.proofs.drivers.nodes_drive.Goals as goal
use Rattle.check_search.proofs.drivers.nodes_drive.Goals.{then-parent_at-bus+in_ok-driven_by, else-parent_at-bus}

pub loop-i-init : goal.loop-i-init
loop-i-init c = search (nodes_yet, rules)

pub returns-in_err-driven_by : goal.returns-in_err-driven_by
returns-in_err-driven_by c =
    let p = err_from_is_err_and c.from_residual.result c.from_residual.ensures.1 in
    rw (p.1, p.2) (nodes_found _ _ _ c.loop-i.invariant c.loop-i-test.true c.parent_at.ensures c.if-parent_at-bus.true c.driven_by.ensures c.in_err-driven_by.was)

pub loop-i-preserved : goal.loop-i-preserved
loop-i-preserved c =
    elim c.if-parent_at-bus.branch [
      | then-parent_at-bus+in_ok-driven_by w ↦ nodes_next _ _ _ c.loop-i.invariant c.loop-i-test.true c.parent_at.ensures w.if-parent_at-bus.true w.driven_by.ensures w.in_ok-driven_by.was
      | else-parent_at-bus w ↦ nodes_off _ _ _ c.loop-i.invariant c.loop-i-test.true c.parent_at.ensures w.if-parent_at-bus.false
    ]

pub returns : goal.returns
returns c = search (nodes_end, rules)
