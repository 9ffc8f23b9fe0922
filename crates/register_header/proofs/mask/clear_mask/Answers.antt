use Rattle.register_header.specs.definitions.Mask.{clear_mask}
use Rattle.register_header.proofs.mask.clear_mask.Goals as goal

pub returns : goal.returns
unfolding clear_mask
returns c = c.clear_entry.ensures
