use Rattle.rack.specs.laws.FirstLaws.{chain_holds, chain_fails, chain_ends}
use Rattle.rack.specs.definitions.Refusal.{node_refusal}
use borrow.Author.Rules.{rules}
use Rattle.rack_refusals.proofs.node_refusal.Goals as goal

pub returns-then-too_many : goal.returns-then-too_many
unfolding node_refusal
returns-then-too_many c = search (chain_holds, rules)

pub returns-then-bad_parent : goal.returns-then-bad_parent
unfolding node_refusal
returns-then-bad_parent c = search (chain_holds, chain_fails, rules)

pub returns-then-high_device : goal.returns-then-high_device
unfolding node_refusal
returns-then-high_device c = search (chain_holds, chain_fails, rules)

pub returns-then-taken_device : goal.returns-then-taken_device
unfolding node_refusal
returns-then-taken_device c = search (chain_holds, chain_fails, rules) depth 7

pub returns-then-bad_region : goal.returns-then-bad_region
unfolding node_refusal
returns-then-bad_region c = search (chain_holds, chain_fails, rules) depth 7

pub returns : goal.returns
unfolding node_refusal
returns c = search (chain_fails, chain_ends, rules) depth 8
