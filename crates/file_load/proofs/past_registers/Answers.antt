use Rattle.file_record.specs.laws.Steps.{registers_past}
use Rattle.file_load.proofs.past_registers.Goals as goal

pub returns : goal.returns
returns c =
    registers_past _ c.args.w _ _ c.past.ensures c.requires.3 c.byte_at-node.ensures c.in_ok-register_fault.ensures
    c.begin.ensures
