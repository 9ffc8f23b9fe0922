use Rattle.std.proofs.Common.{rules, ◌∙◌, ap}
use Rattle.std.specs.Option.{unwrap_or}
use Rattle.register_image.proofs.Sized.{size_in, size_asked, same_node}
use Rattle.register_image.proofs.RegistersMut.size_region.Goals as goal

pub returns-clause-leaves : goal.returns-clause-leaves
returns-clause-leaves c = (
  c.unwrap_or.ensures
      ∙ ap (λ o. unwrap_or o 0) (c.change.ensures.answers (λ n. size_in n c.args.r) (λ m part after s long k. search rules))
      ∙ size_asked c.args.self.now.table.now c.args.self.now.bridges.now c.args.self.now.devices.now c.args.i c.args.r,
  c.change.ensures.leaves (λ n part. part) (λ m part after s long k. search rules) ∙ same_node _ _ c.args.i,
)
