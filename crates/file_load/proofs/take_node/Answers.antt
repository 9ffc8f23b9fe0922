use borrow.Author.Rules.{rules}
use Rattle.file_record.specs.laws.Steps.{node_full, node_fault_lem}
use Rattle.file_load.proofs.take_node.Goals as goal

pub returns-then-count-ge96-clause-fault : goal.returns-then-count-ge96-clause-fault
returns-then-count-ge96-clause-fault c = search (node_full, rules)

pub returns-clause-fault : goal.returns-clause-fault
returns-clause-fault c = search (node_fault_lem, rules)
