use Rattle.rack.specs.laws.FirstLaws.{NoneBefore}
use Rattle.rack.specs.definitions.Refusal.{node_refusal}
use Rattle.rack.specs.definitions.Table.{node_at}
use Rattle.rack_refusals.proofs.refusal_of.Given as goal

abbrev pub invariant-loop-i : goal.invariant-loop-i
invariant-loop-i l = NoneBefore (node_refusal (node_at l.table)) l.end l.i
