use Rattle.register_image.proofs.Held.{on_none, on_bridge, on_device, in_none, in_bridge, in_device}
use Rattle.register_image.proofs.RegistersMut.change.Goals as goal

pub returns-then-is_bridge-clause-answers : goal.returns-then-is_bridge-clause-answers
returns-then-is_bridge-clause-answers g c h does =
    in_bridge _ _ _ _ c.count_of.ensures c.if-i-count_of.true c.node_at-n.ensures c.place_at-place.ensures c.is_bridge.ensures h
    c.if-is_bridge.true (c.change_part.ensures.answers h does)

pub returns-then-is_bridge-clause-leaves : goal.returns-then-is_bridge-clause-leaves
returns-then-is_bridge-clause-leaves g c f does =
    on_bridge _ _ _ _ c.count_of.ensures c.if-i-count_of.true c.node_at-n.ensures c.place_at-place.ensures c.is_bridge.ensures f
    c.if-is_bridge.true (c.change_part.ensures.leaves f does)

pub returns-then-i-count_of-clause-answers : goal.returns-then-i-count_of-clause-answers
returns-then-i-count_of-clause-answers g c h does =
    in_device _ _ _ _ c.count_of.ensures c.if-i-count_of.true c.node_at-n.ensures c.place_at-place.ensures c.is_bridge.ensures h
    c.if-is_bridge.false (c.change_part-then-i-count_of.ensures.answers h does)

pub returns-then-i-count_of-clause-leaves : goal.returns-then-i-count_of-clause-leaves
returns-then-i-count_of-clause-leaves g c f does =
    on_device _ _ _ _ c.count_of.ensures c.if-i-count_of.true c.node_at-n.ensures c.place_at-place.ensures c.is_bridge.ensures f
    c.if-is_bridge.false (c.change_part-then-i-count_of.ensures.leaves f does)

pub returns-clause-answers : goal.returns-clause-answers
returns-clause-answers g c h does = in_none _ _ _ _ c.count_of.ensures _ c.if-i-count_of.false

pub returns-clause-leaves : goal.returns-clause-leaves
returns-clause-leaves g c f does = on_none _ _ _ _ c.count_of.ensures _ c.if-i-count_of.false
