use borrow.Author.Rules.{rules}
use Rattle.rack.specs.definitions.Table.{tree_of}
use Rattle.register_image.specs.definitions.Image.{images}
use Rattle.bench.proofs.Measured.{route_shown}
use Rattle.bench.proofs.bench_route.Goals as goal

pub returns : goal.returns
returns c =
    let a = c.args in
    let h = route_shown (tree_of a.table.now) (images a.bridges.now a.devices.now) a.initiator a.address
    c.reading_at.ensures c.route_access.ensures.leaves c.shown_of.ensures in
    search rules
