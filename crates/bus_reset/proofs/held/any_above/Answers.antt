use Rattle.std.proofs.Common.{◌≡◌, ◌+◌, ◌-◌, arith}
use Rattle.rack.specs.definitions.Table.{tree_of}
use Rattle.bus_reset.specs.laws.WayUp.{above_root, above_found, above_next, above_spent}
use Rattle.bus_reset.proofs.held.any_above.Goals as goal

pub returns-then-at : goal.returns-then-at
returns-then-at g c p d =
    above_root (tree_of c.args.table.now) p c.args.bus _ _ (c.loop-step.invariant p d) (omega arith) c.if-at.true

pub returns-then-test : goal.returns-then-test
returns-then-test g c p d =
    above_found (tree_of c.args.table.now) p c.args.bus _ _ (c.loop-step.invariant p d) (omega arith) c.if-at.false
    (d _ _ c.test.ensures) c.if-test.true

pub loop-step-preserved : goal.loop-step-preserved
loop-step-preserved g c p d =
    let e : c.args.bus + 1 - c.loop-step._step - 1 ≡ c.args.bus + 1 - (c.loop-step._step + 1) = omega arith in
    rw e at (above_next (tree_of c.args.table.now) p c.args.bus _ _ (c.loop-step.invariant p d) (omega arith) c.if-at.false
    (d _ _ c.test.ensures) c.if-test.false c.parent_at-at.ensures)

pub returns : goal.returns
returns g c p d = above_spent (tree_of c.args.table.now) p c.args.bus _ _ (c.loop-step.invariant p d) (omega arith)
