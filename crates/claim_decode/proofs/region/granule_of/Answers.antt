use Rattle.claim_decode.proofs.Granule.{granule_fits}
use Rattle.claim_decode.proofs.region.granule_of.Goals as goal

pub window_of-requires : goal.window_of-requires
window_of-requires c =
    let fits = granule_fits c.args.e c.requires c.args.value c.ranges.value.fits in
    (c.requires, fits, fits)
