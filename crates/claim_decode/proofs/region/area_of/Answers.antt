use mathlib.Core.Path.{◌∙◌}
use borrow.Author.Rules.{rules}
use Rattle.claim_decode.proofs.Decoded.{exponent_below, area_is, area_none}
use Rattle.claim_decode.proofs.region.area_of.Goals.{then-kind-e, else-kind-e}
use Rattle.claim_decode.proofs.region.area_of.Goals as goal

pub granule_of-range-requires : goal.granule_of-range-requires
granule_of-range-requires c = search (exponent_below, rules)

pub returns : goal.returns
returns c =
    elim c.if-kind-e.branch [
      | then-kind-e w ↦ area_none c.args.part.now _ _ c.args.r w.if-kind-e.true w.range-is
      | else-kind-e w ↦ area_is c.args.part.now _ _ _ w.if-kind-e.false w.region_value.ensures (w.range-is ∙ w.granule_of-range.ensures)
    ]
