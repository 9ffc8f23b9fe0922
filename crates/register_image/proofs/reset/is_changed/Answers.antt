use Rattle.std.proofs.Common.{rules, refl}
use borrow.Author.Tests.{tests}
use Rattle.rack.specs.laws.AnyLaws.{any_some}
use Rattle.register_image.specs.definitions.Reset.{byte_changed}
use Rattle.register_image.proofs.reset.is_changed.Goals as goal

pub returns : goal.returns
returns c = any_some (byte_changed c.args.n c.args.part.now) 64 c.any.ensures.ran refl (λ x q k. search (rules, tests)) (λ x q k. search (rules, tests))
