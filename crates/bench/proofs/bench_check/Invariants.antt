use mathlib.Core.Path.{◌≡◌}
use Rattle.rack.specs.definitions.Table.{tree_of}
use Rattle.rack.specs.definitions.Refusal.{rack_refusal}
use Rattle.register_image.specs.definitions.Image.{images}
use Rattle.bench.specs.definitions.Shown.{last_of}
use Rattle.bench.proofs.bench_check.Given as goal

abbrev pub invariant-loop : goal.invariant-loop
invariant-loop l =
    (rack_refusal (tree_of l.table) ≡ 0) × (l.shown ≡ last_of (tree_of l.table) (images l.bridges l.devices) l.counter)
