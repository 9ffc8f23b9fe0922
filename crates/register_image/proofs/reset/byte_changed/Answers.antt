use Rattle.std.proofs.Common.{rules}
use Rattle.register_image.specs.definitions.Reset.{byte_changed}
use Rattle.register_image.proofs.reset.byte_changed.Goals as goal

pub returns : goal.returns
unfolding byte_changed
returns c = search rules
