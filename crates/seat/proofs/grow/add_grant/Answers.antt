use Rattle.seat.proofs.Filled.{sound_place, taken_in}
use borrow.Author.Rules.{rules}
use Rattle.seat.proofs.grow.add_grant.Goals as goal

pub slot-requires : goal.slot-requires
slot-requires c = sound_place _ _ _ c.requires.0 c.requires.1

pub returns : goal.returns
returns c = search (taken_in, rules)
