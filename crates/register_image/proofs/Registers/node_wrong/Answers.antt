use Rattle.register_image.proofs.Registers.node_wrong.Goals as goal

pub returns : goal.returns
returns c = cc
