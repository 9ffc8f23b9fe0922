use borrow.Author.Rules.{rules}
use Rattle.bus_reset.proofs.Asked.{refused_11, refused_12, refused_18, refused_none}
use Rattle.bus_reset.proofs.agreement.image_refusal.Goals as goal

pub returns-then-length : goal.returns-then-length
returns-then-length c = search (refused_11, rules)

pub returns-then-fixed : goal.returns-then-fixed
returns-then-fixed c = search (refused_12, rules)

pub returns-then-held : goal.returns-then-held
returns-then-held c = search (refused_18, rules)

pub returns : goal.returns
returns c = search (refused_none, rules)
