use Rattle.rack.proofs.Grown.{one_more}
use borrow.Author.Rules.{rules}
use Rattle.rack.proofs.grow.add_node.Goals as goal
use Rattle.rack.proofs.grow.add_node.Goals.{then-is, else-is}

pub returns : goal.returns
returns c =
    one_more _ _ (search rules) (search rules) c.count_of-count.ensures c.is_bridge-is.ensures
    c.new_place-place.ensures c.new_depth-depth.ensures c.deepest.ensures
    (elim c.if-is.branch [ then-is w ↦ rw (w.if-is.true) w.max-is | else-is w ↦ rw (w.if-is.false) w.max-is ]) c.max-greatest.ensures
    c.low_word.ensures c.high_word.ensures c.end_word.ensures c.put_words.ensures.1
