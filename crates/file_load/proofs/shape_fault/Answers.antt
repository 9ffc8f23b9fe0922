use Rattle.rack.specs.laws.FirstLaws.{chain_holds, chain_fails, chain_ends}
use Rattle.file_record.specs.definitions.Load.{shape_fault}
use borrow.Author.Rules.{rules}
use Rattle.file_load.proofs.shape_fault.Goals as goal

pub returns-then-no_kind : goal.returns-then-no_kind
unfolding shape_fault
returns-then-no_kind c = search (chain_holds, rules)

pub returns-then-cut_short : goal.returns-then-cut_short
unfolding shape_fault
returns-then-cut_short c = search (chain_holds, chain_fails, rules)

pub returns-then-host_wrong : goal.returns-then-host_wrong
unfolding shape_fault
returns-then-host_wrong c = search (chain_holds, chain_fails, rules)

pub returns-then-follows_later : goal.returns-then-follows_later
unfolding shape_fault
returns-then-follows_later c = search (chain_holds, chain_fails, rules) depth 7

pub returns : goal.returns
unfolding shape_fault
returns c = search (chain_fails, chain_ends, rules) depth 7
