use Rattle.file_record.specs.laws.Steps.{node_past}
use Rattle.file_load.proofs.past_node.Goals as goal

pub returns : goal.returns
returns c =
    node_past _ c.args.w c.args.table.now c.args.grants.now c.past.ensures c.requires.1 c.in_ok-take_node.ensures.fault c.in_ok-take_node.ensures.taken
