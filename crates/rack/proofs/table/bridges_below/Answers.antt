use Rattle.std.proofs.Common.{rules}
use borrow.Author.Tests.{tests}
use Rattle.rack.specs.definitions.Node.{is_bridge}
use Rattle.rack.specs.definitions.Table.{node_at}
use Rattle.rack.specs.laws.AnyLaws.{count_range}
use Rattle.rack.proofs.table.bridges_below.Goals as goal

pub returns : goal.returns
returns c =
    count_range (λ i. is_bridge (node_at c.args.table.now i).kind) _ c.count.ensures.ran c.filter.ensures.source c.filter.ensures.closure
    (λ x b q k. search (rules, tests))
