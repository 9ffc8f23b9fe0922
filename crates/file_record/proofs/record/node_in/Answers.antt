use borrow.Author.Rules.{rules}
use Rattle.file_record.proofs.Records.{bridge_in_lem, device_in}
use Rattle.file_record.proofs.record.node_in.Goals as goal
use Rattle.file_record.proofs.record.node_in.Goals.{then-is_bridge, else-is_bridge}

pub returns : goal.returns
returns c =
    elim c.if-is_bridge.branch [ then-is_bridge w ↦ search (bridge_in_lem, rules) | else-is_bridge w ↦ search (device_in, rules) ]
