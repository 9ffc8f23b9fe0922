use Rattle.rackrun.proofs.Blank.{some_nodes, bridges_fit, devices_fit, bridges_word, bridges_are, devices_are}
use borrow.Author.Rules.{rules}
use Rattle.rackrun.proofs.room_in.Goals as goal

pub overflow_sub-d : goal.overflow_sub-d
overflow_sub-d c = search (some_nodes, rules)

pub overflow_mul-result : goal.overflow_mul-result
overflow_mul-result c = search (bridges_word, rules)

pub returns : goal.returns
returns c = (search (bridges_fit, rules), search (devices_fit, rules), search (bridges_are, rules), search (devices_are, rules))
