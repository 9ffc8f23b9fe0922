use Rattle.std.proofs.Common.{rules, ◌≡◌, true, false}
use borrow.Author.Tests.{tests}
use Rattle.std.proofs.lemmas.Iterator.{cases_from_all, YieldsList-from_slice}
use Rattle.rack.specs.definitions.Refusal.{region_range}
use Rattle.rack_refusals.proofs.Ranges.{all_in_range}
use Rattle.rack_refusals.proofs.regions_range.Goals as goal

pub returns : goal.returns
returns c =
    all_in_range c.args.n _ (search rules)
    (cases_from_all _ _ _ (λ r. region_range r.kind r.exponent ≡ true) (λ r. region_range r.kind r.exponent ≡ false)
    c.all.ensures.ran (YieldsList-from_slice c.args.n.regions (search rules)) (λ x q k. search (rules, tests)) (λ x q k. search (rules, tests)))
