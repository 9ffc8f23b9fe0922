use mathlib.Core.Path.{◌∙◌}
use borrow.Author.Rules.{rules}
use Rattle.std.proofs.lemmas.Iterator.{YieldsList-from_slice}
use Rattle.std.proofs.lemmas.Iterator.Consumers.{fold_from_yields_List}
use Rattle.claim_window.specs.definitions.Cut.{cut_range}
use Rattle.claim_agent.proofs.Reach.{in_order, until_is}
use Rattle.claim_agent.proofs.DeviceClaims.regions_until.Goals as goal

pub returns : goal.returns
returns c =
    fold_from_yields_List _ (λ m s. cut_range s.range c.args.a m) _ _ c.fold.ensures.ran (YieldsList-from_slice c.args.self.areas (search (in_order, rules)))
    (λ m x b q k. search rules)
    ∙ until_is c.args.self (search rules) c.args.a c.args.e
