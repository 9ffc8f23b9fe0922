use Rattle.file_record.specs.laws.LoadsLaws.{left_start, left_step, left_stop, left_less, left_end}
use Rattle.file_load.proofs.read.Goals as goal

pub loop-w-init : goal.loop-w-init
loop-w-init c = left_start _ _ c.default-w.result _ _ c.no_table-table.ensures c.no_grants-grants.ensures c.default-w.ensures

pub returns-in-Err : goal.returns-in-Err
returns-in-Err c = left_stop _ _ c.loop-w.invariant c.loop-w-test.true c.in-Err.ensures

pub loop-w-smaller : goal.loop-w-smaller
loop-w-smaller c = left_less _ _ c.loop-w.invariant c.loop-w-test.true c.in-Ok.ensures

pub loop-w-preserved : goal.loop-w-preserved
loop-w-preserved c = left_step _ _ c.loop-w.invariant c.loop-w-test.true c.in-Ok.ensures

pub returns : goal.returns
returns c = left_end _ _ c.loop-w.w _ _ c.loop-w.invariant c.loop-w-test.false c.begin-offset.ensures c.begin.ensures
