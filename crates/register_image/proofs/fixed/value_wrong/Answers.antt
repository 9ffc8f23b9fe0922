use Rattle.register_image.proofs.fixed.value_wrong.Goals as goal

pub returns : goal.returns
returns c = simp (← c.fixed_mask-fixed.ensures, ← c.reset_byte.ensures)
