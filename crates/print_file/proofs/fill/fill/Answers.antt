use Rattle.print_file.proofs.Turns.{turn_inside, turn_less, fill_all, fill_end, fill_onward, fill_next}
use borrow.Author.Rules.{rules}
use Rattle.print_file.proofs.fill.fill.Goals as goal

pub loop-next-init : goal.loop-next-init
loop-next-init c = (search (fill_all, rules), search rules)

pub returns-then-file-next-clause-fills : goal.returns-then-file-next-clause-fills
returns-then-file-next-clause-fills c = search (fill_end, rules)

pub returns-then-file-next-clause-onward : goal.returns-then-file-next-clause-onward
returns-then-file-next-clause-onward c = search (fill_onward, rules)

pub run_line-line-requires : goal.run_line-line-requires
run_line-line-requires c = (search rules, search (turn_inside, rules))

pub past-next-requires : goal.past-next-requires
past-next-requires c = (search (turn_inside, rules), search rules)

pub loop-next-smaller : goal.loop-next-smaller
loop-next-smaller c = search (turn_less, rules)

pub loop-next-preserved : goal.loop-next-preserved
loop-next-preserved c = (search (fill_next, rules), search rules)
