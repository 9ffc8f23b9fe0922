use Rattle.std.proofs.Common.{rules, refl}
use borrow.Author.Tests.{tests}
use Rattle.rack.specs.definitions.Refusal.{same_slot, taken_device}
use Rattle.rack.specs.definitions.Table.{node_at}
use Rattle.rack.specs.laws.AnyLaws.{any_some}
use Rattle.rack_refusals.proofs.taken_device.Goals as goal

pub returns : goal.returns
unfolding taken_device
returns c =
    any_some (λ j. same_slot (node_at c.args.table.now j) (node_at c.args.table.now c.args.i)) _ c.any.ensures.ran refl
    (λ x q k. search (rules, tests)) (λ x q k. search (rules, tests))
