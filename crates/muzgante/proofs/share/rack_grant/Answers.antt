use Rattle.std.proofs.Common.{ap, ◌∙◌}
use Rattle.call_table.specs.definitions.Call.{numbered}
use Rattle.muzgante.proofs.Calling.{grant_told}
use Rattle.muzgante.proofs.share.rack_grant.Goals as goal

pub returns : goal.returns
returns c =
    let told = c.put_arbitration.ensures in
    grant_told _ (c.numbered.ensures ∙ ap numbered c.arbitrate-a.ensures) told.0 told.1
