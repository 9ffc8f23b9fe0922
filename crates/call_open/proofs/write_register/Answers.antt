use borrow.Author.Rules.{rules}
use Rattle.call_open.proofs.Over.{refusal_over, write_over}
use Rattle.call_open.proofs.write_register.Goals as goal

pub returns : goal.returns
returns c =
    let h = write_over _ c.tables_of-t.ensures.0 _ c.tables_of-t.ensures.1 _ _ _ _ _ c.write_on.ensures.leaves.1 in
    (refusal_over _ c.tables_of-t.ensures.0 _ c.tables_of-t.ensures.1 _ _ c.args.register c.args.enables c.write_on.ensures.leaves.0, search rules)
