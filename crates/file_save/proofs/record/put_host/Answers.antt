use Rattle.std.proofs.Common.{arith}
use Rattle.file_save.proofs.Records.{host_put}
use Rattle.file_save.proofs.record.put_host.Goals as goal

pub returns : goal.returns
returns c =
    host_put c.args.memory (omega arith) (omega arith) c.to_le_bytes.ensures c.to_le_bytes-2.ensures
    c.put-next.ensures c.put-next-2.ensures c.put.ensures c.requires
