use borrow.Author.Rules.{rules}
use Rattle.register_header.proofs.Masks.{region_below, reset_ids, reset_region, reset_table_lem}
use Rattle.register_header.proofs.mask.reset_byte.Goals as goal

pub returns-then-at-lt4 : goal.returns-then-at-lt4
returns-then-at-lt4 c = search (reset_ids, rules)

pub region_at-r-requires : goal.region_at-r-requires
region_at-r-requires c = search (region_below, rules)

pub returns-then-in_region : goal.returns-then-in_region
returns-then-in_region c = search (reset_region, rules)

pub returns : goal.returns
returns c = search (reset_table_lem, rules)
