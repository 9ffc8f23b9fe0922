use Rattle.file_save.proofs.Records.{grant_put}
use Rattle.file_save.proofs.record.put_grant.Goals as goal

pub returns : goal.returns
returns c =
    grant_put c.args.seat c.args.node c.args.mask c.ranges.mask.fits c.to_le_bytes.ensures c.put-next.ensures c.put.ensures c.requires
