use Rattle.register_image.proofs.Held.{view_none, view_bridge, view_device}
use borrow.Author.Rules.{rules}
use Rattle.register_image.proofs.Registers.view.Goals as goal

pub returns-then-is_bridge : goal.returns-then-is_bridge
returns-then-is_bridge c =
    view_bridge _ _ _ _ c.count_of.ensures c.if-i-count_of.true c.node_at-n.ensures
    c.place_at-place.ensures c.is_bridge.ensures c.if-is_bridge.true c.node_part.ensures

pub returns-then-i-count_of : goal.returns-then-i-count_of
returns-then-i-count_of c =
    view_device _ _ _ _ c.count_of.ensures c.if-i-count_of.true c.node_at-n.ensures
    c.place_at-place.ensures c.is_bridge.ensures c.if-is_bridge.false c.node_part-then-i-count_of.ensures

pub returns : goal.returns
returns c = search (view_none, rules)
