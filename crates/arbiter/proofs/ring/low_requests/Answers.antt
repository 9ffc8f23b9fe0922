use Rattle.arbiter.proofs.Requests.{low_set}
use Rattle.arbiter.proofs.ring.low_requests.Goals as goal

pub returns : goal.returns
returns c = low_set _ _ c.requires c.ranges.mask.fits
