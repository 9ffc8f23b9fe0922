use mathlib.Core.Path.{refl, ◌∙◌}
use borrow.Author.Tests.{tests}
use Rattle.std.proofs.Common.{rules}
use Rattle.rack.specs.laws.AnyLaws.{any_some}
use Rattle.file_registers.proofs.Turns.{resets_nth, resets_some}
use Rattle.file_registers.proofs.record_resets.Goals as goal

pub returns : goal.returns
returns c =
    let b = c.args.file.now in
    any_some (resets_nth b c.args.end c.args.start c.args.g c.requires.2) _ c.any.ensures.ran refl (λ x q k. search (rules, tests))
    (λ x q k. search (rules, tests))
    ∙ resets_some b c.args.end c.args.start c.args.g c.requires.2 c.requires.0
