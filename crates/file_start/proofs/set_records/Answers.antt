use Rattle.std.proofs.Common.{◌≡◌, ℕ, ◌+◌, ◌*◌, rules, subst, arith}
use Rattle.register_image.specs.definitions.LentMut.{tree_at, images_at}
use Rattle.file_start.proofs.Turns.{Left, left_all, left_next, left_none}
use Rattle.file_start.proofs.set_records.Goals as goal

pub loop-i-init : goal.loop-i-init
loop-i-init c =
    let e : c.args.first ≡ c.args.first + 0 = omega arith in (
      search rules,
      subst (λ (o : ℕ). Left c.args.file.now (tree_at c.args.registers.now) c.args.first c.args.end (images_at c.args.registers.now) o (images_at c.args.registers.now)) e
          (left_all _ _ _ _ _ c.requires.0),
    )

pub loop-i-preserved : goal.loop-i-preserved
loop-i-preserved c =
    let e : c.args.first + 66 * c.loop-i.i + 66 ≡ c.args.first + 66 * (c.loop-i.i + 1) = omega arith in (
      search rules,
      subst (λ (o : ℕ). Left c.args.file.now (tree_at c.args.registers.now) c.args.first c.args.end (images_at c.args.registers.now) o (images_at c.set_node.new.self)) e
          (search (left_next, rules)),
    )

pub returns-clause-leaves : goal.returns-clause-leaves
returns-clause-leaves c = left_none _ _ _ _ _ c.loop-i.invariant.1 (omega arith)
