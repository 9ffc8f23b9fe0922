use Rattle.std.proofs.Common.{arith}
use Rattle.file_save.proofs.Records.{head_put}
use Rattle.file_save.proofs.record.put_head.Goals as goal

pub returns : goal.returns
returns c =
    head_put c.args.n (omega arith) (omega arith) c.from.ensures c.to_le_bytes.ensures c.to_le_bytes-2.ensures
    c.put-next.ensures c.put-next-2.ensures c.put.ensures c.requires
