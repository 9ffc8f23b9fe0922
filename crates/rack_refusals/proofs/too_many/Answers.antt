use Rattle.rack.specs.laws.TreeLaws.{below_le}
use Rattle.rack_refusals.proofs.Few.{many_bridges, many_devices}
use Rattle.rack.specs.definitions.Table.{node_at}
use native.Mathlib.Omega.{arith}
use borrow.Author.Rules.{rules}
use Rattle.rack_refusals.proofs.too_many.Goals as goal

pub overflow_sub-result : goal.overflow_sub-result
overflow_sub-result c =
    let a = c.args in
    omega (arith, c.bridges_below-bridges.ensures, below_le (node_at a.table.now) a.i)

pub returns-then-is_bridge : goal.returns-then-is_bridge
returns-then-is_bridge c = search (many_bridges, rules)

pub returns-else-is_bridge : goal.returns-else-is_bridge
returns-else-is_bridge c = search (many_devices, rules)
