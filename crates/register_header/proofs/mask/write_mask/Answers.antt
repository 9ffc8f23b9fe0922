use borrow.Author.Rules.{rules}
use Rattle.register_header.proofs.Masks.{region_below, mask_region, mask_table}
use Rattle.register_header.proofs.mask.write_mask.Goals as goal

pub region_at-r-requires : goal.region_at-r-requires
region_at-r-requires c = search (region_below, rules)

pub returns-then-in_region : goal.returns-then-in_region
returns-then-in_region c = search (mask_region, rules)

pub returns : goal.returns
returns c = search (mask_table, rules)
