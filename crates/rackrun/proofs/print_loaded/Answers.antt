use Rattle.rack.specs.definitions.Table.{tree_of}
use Rattle.seat.specs.definitions.Table.{grants_of}
use Rattle.rackrun.proofs.Loaded.{first_stands, first_end, refused_stands, refused_end}
use borrow.Author.Rules.{rules}
use Rattle.rackrun.proofs.print_loaded.Goals as goal

pub print_rest-requires : goal.print_rest-requires
print_rest-requires c =
    let h = rw c.in-Ok.is at c.requires in
    first_stands c.args.file.now _ h.0 _ _ _ c.first_rest-first.ensures h.1

pub returns-in-Ok : goal.returns-in-Ok
returns-in-Ok c =
    let h = rw c.in-Ok.is at c.requires in
    let e = first_end c.args.file.now _ h.0 _ _ _ c.first_rest-first.ensures in
    let p = rw e at c.print_rest.ensures.leaves in
    search rules

pub print_rest-requires-in-Err : goal.print_rest-requires-in-Err
print_rest-requires-in-Err c =
    let h = rw c.in-Err.is at c.requires in
    refused_stands c.args.file.now _ h.0 _ _ _ _ _ c.first_rest-first.ensures

pub returns-in-Err : goal.returns-in-Err
returns-in-Err c =
    let h = rw c.in-Err.is at c.requires in
    let e = refused_end c.args.file.now _ h.0 (tree_of c.no_table-table.result) (grants_of c.no_grants.result) _ _ _ c.first_rest-first.ensures in
    let p = rw e at c.print_rest-in-Err.ensures.leaves in
    search rules
