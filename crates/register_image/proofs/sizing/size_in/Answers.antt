use Rattle.register_image.proofs.Sized.{size_given}
use Rattle.register_image.proofs.sizing.size_in.Goals as goal

pub returns-then-r-lt3-clause-size : goal.returns-then-r-lt3-clause-size
returns-then-r-lt3-clause-size c =
    size_given _ _ _ c.is_bridge.ensures c.if-is_bridge.false c.if-r-lt3.true c.size_part.ensures.0
