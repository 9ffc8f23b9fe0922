use borrow.Author.Rules.{rules}
use Rattle.check_sweep.proofs.Filled.{gathered_none, gathered_on, gathered_off, gathered_room, gathered_all}
use Rattle.check_sweep.proofs.agents.agents_on.Goals as goal
use Rattle.check_sweep.proofs.agents.agents_on.Goals.{then-parent_at-bus, else-parent_at-bus}

pub loop-i-init : goal.loop-i-init
loop-i-init c = search (gathered_none, rules)

pub offset_bounds-found-n : goal.offset_bounds-found-n
offset_bounds-found-n c = search (gathered_room, rules)

pub bounds-found-n : goal.bounds-found-n
bounds-found-n c = search (gathered_room, rules)

pub overflow_add-n : goal.overflow_add-n
overflow_add-n c = search (gathered_room, rules)

pub loop-i-preserved : goal.loop-i-preserved
loop-i-preserved c =
    elim c.if-parent_at-bus.branch [
      | then-parent_at-bus w ↦
          rw (w.found-is, w.n-is)
          (gathered_on _ _ _ _ c.loop-i.invariant c.loop-i-test.true c.parent_at.ensures w.if-parent_at-bus.true c.requires w.agent_at.ensures)
      | else-parent_at-bus w ↦
          rw (w.found-is, w.n-is) (gathered_off _ _ _ _ c.loop-i.invariant c.loop-i-test.true c.parent_at.ensures w.if-parent_at-bus.false)
    ]

pub returns : goal.returns
returns c = search (gathered_all, rules)
