use native.Mathlib.Omega.{arith}
use Rattle.rack.specs.definitions.Table.{node_at}
use Rattle.register_image.proofs.Counted.{bridges_le, lengths}
use borrow.Author.Rules.{rules}
use Rattle.register_image.proofs.Registers.lengths_wrong.Goals as goal

pub overflow_sub-d : goal.overflow_sub-d
overflow_sub-d c = search (bridges_le, rules)

pub overflow_mul-result : goal.overflow_mul-result
overflow_mul-result c = omega (arith, bridges_le (node_at c.args.self.now.table.now) c.bridges_below-b.ensures)

pub overflow_mul-result-2 : goal.overflow_mul-result-2
overflow_mul-result-2 c = omega (arith, bridges_le (node_at c.args.self.now.table.now) c.bridges_below-b.ensures)

pub returns : goal.returns
returns c = search (lengths, rules)
