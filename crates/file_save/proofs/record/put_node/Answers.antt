use borrow.Author.Rules.{rules}
use Rattle.file_save.proofs.Puts.{put_same, put_two}
use Rattle.file_save.proofs.Records.{head_room, bridge_is, device_is, regions_room}
use Rattle.file_save.proofs.record.put_node.Goals as goal

pub put_head-next-requires : goal.put_head-next-requires
put_head-next-requires c = search (head_room, rules)

pub returns-then-is_bridge : goal.returns-then-is_bridge
returns-then-is_bridge c = search (put_same, bridge_is, rules)

pub put_regions-requires : goal.put_regions-requires
put_regions-requires c = search (regions_room, rules)

pub returns : goal.returns
returns c = search (put_two, device_is, rules)
