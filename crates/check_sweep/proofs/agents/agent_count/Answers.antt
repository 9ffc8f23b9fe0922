use Rattle.std.proofs.Common.{sym, ap, ℕ, ◌+◌, ◌∙◌, rules, eqb}
use borrow.Author.Tests.{tests}
use Rattle.rack.specs.definitions.Table.{tree_of, node_at}
use Rattle.rack.specs.definitions.Count.{count_of}
use Rattle.rack.specs.laws.AnyLaws.{count_range}
use Rattle.rack_laws.specs.laws.Agents.{agents_counted}
use Rattle.check_sweep.proofs.agents.agent_count.Goals as goal

pub returns : goal.returns
returns c =
    let n =
    count_range (λ i. eqb (node_at c.args.table.now i).parent c.args.bus) _ c.count.ensures.ran c.filter.ensures.source
    c.filter.ensures.closure (λ x b q k. search (rules, tests)) in
    ap (λ (k : ℕ). 1 + k) (n ∙ ap (count_of (λ i. eqb (node_at c.args.table.now i).parent c.args.bus)) c.count_of.ensures)
    ∙ sym (agents_counted (tree_of c.args.table.now) c.args.bus)
