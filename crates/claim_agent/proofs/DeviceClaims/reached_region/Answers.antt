use borrow.Author.Rules.{rules}
use borrow.Author.Tests.{tests}
use Rattle.claim_agent.proofs.Reach.{in_order, searched, none_reached, one_above, one_reached}
use Rattle.claim_agent.proofs.DeviceClaims.reached_region.Goals as goal

pub returns-in_err-region : goal.returns-in_err-region
returns-in_err-region c =
    let none = searched c.args.self (search rules) c.args.io c.args.a c.position.ensures.ran (search (in_order, rules)) (λ x b q k. search (rules, tests)) in
    rw c.from_residual.ensures (none_reached c.args.self (search rules) c.args.io c.args.a none c.in_err-region.was)

pub overflow_sub-result : goal.overflow_sub-result
overflow_sub-result c =
    let found = searched c.args.self (search rules) c.args.io c.args.a c.position.ensures.ran (search (in_order, rules)) (λ x b q k. search (rules, tests)) in
    one_above c.args.self (search rules) c.args.io c.args.a found c.in_ok-region.was _

pub returns : goal.returns
returns c =
    let reached = searched c.args.self (search rules) c.args.io c.args.a c.position.ensures.ran (search (in_order, rules)) (λ x b q k. search (rules, tests)) in
    one_reached c.args.self (search rules) c.args.io c.args.a reached c.in_ok-region.was _
