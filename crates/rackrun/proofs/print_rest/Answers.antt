use Rattle.rackrun.proofs.Parts.{printing_none, printing_stands, printing_done, printing_next, printing_less}
use borrow.Author.Rules.{rules}
use Rattle.rackrun.proofs.print_rest.Goals as goal

pub loop-registers-init : goal.loop-registers-init
loop-registers-init c = (search (printing_none, rules), search rules)

pub print_part-requires : goal.print_part-requires
print_part-requires c = (search (printing_stands, rules), search rules)

pub loop-registers-smaller : goal.loop-registers-smaller
loop-registers-smaller c = search (printing_less, rules)

pub loop-registers-preserved : goal.loop-registers-preserved
loop-registers-preserved c = (search (printing_next, rules), search rules)

pub returns-clause-leaves : goal.returns-clause-leaves
returns-clause-leaves c = search (printing_done, rules)
