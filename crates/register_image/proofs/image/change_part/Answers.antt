use Rattle.register_image.proofs.Slot.{long, put_back, untouched, found, found_none}
use Rattle.register_image.proofs.image.change_part.Goals as goal

pub returns-then-place-image-clause-answers : goal.returns-then-place-image-clause-answers
returns-then-place-image-clause-answers g c h does =
    found _ _ (h c.args.n) c.if-place-image.true (does _ _ _ _ (long _ _ c.if-place-image.true) c.change.ensures)

pub returns-then-place-image-clause-leaves : goal.returns-then-place-image-clause-leaves
returns-then-place-image-clause-leaves g c f does =
    put_back _ _ (f c.args.n) c.if-place-image.true (does _ _ _ _ (long _ _ c.if-place-image.true) c.change.ensures)

pub returns-clause-answers : goal.returns-clause-answers
returns-clause-answers g c h does = found_none _ _ _ c.if-place-image.false

pub returns-clause-leaves : goal.returns-clause-leaves
returns-clause-leaves g c f does = untouched _ _ _ c.if-place-image.false
