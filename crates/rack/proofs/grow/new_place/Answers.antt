use Rattle.std.proofs.Common.{rules, arith}
use Rattle.rack.specs.laws.TreeLaws.{below_le}
use Rattle.rack.specs.definitions.Table.{node_at}
use Rattle.rack.proofs.Grown.{devices_next}
use Rattle.rack.proofs.grow.new_place.Goals as goal

pub overflow_cast-bridges : goal.overflow_cast-bridges
overflow_cast-bridges c =
    omega (arith, c.bridges_below-bridges.ensures, below_le (node_at c.args.table.now) c.count_of-count.result)

pub overflow_sub-result : goal.overflow_sub-result
overflow_sub-result c =
    omega (arith, c.bridges_below-bridges.ensures, below_le (node_at c.args.table.now) c.count_of-count.result)

pub returns-then-is : goal.returns-then-is
returns-then-is c = search rules

pub returns-else-is : goal.returns-else-is
returns-else-is c = search (devices_next, rules)
