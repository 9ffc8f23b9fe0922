-- The turns of the loop that sets registers: what is left is what is set from here on.
use mathlib.Core.Path.{◌≡◌, refl, sym, ap, ◌∙◌}
use mathlib.Core.List.{List}
use Prim.Native.Nat.{ℕ, zero, suc, ◌+◌, ◌≤◌, ◌<◌}
use native.Mathlib.Omega.{arith}
use borrow.Author.Tests.{lt-ltb, le-ltb}
use lib.ListN.{length}
use Rattle.rack.specs.definitions.Tree.{Tree}
use Rattle.register_image.specs.definitions.Image.{Images, set_node}
use Rattle.register_image.specs.definitions.Reset.{reset_images}
use Rattle.file_record.specs.definitions.Number.{byte_in}
use Rattle.file_record.specs.definitions.Record.{registers_in}
use Rattle.file_record.specs.definitions.Start.{set_from, start_from}

module _ (b : List ℕ) (t : Tree) (registers end : ℕ) (before : Images) where
  pub record Left (o : ℕ) (im : Images) : Type 0 where
    pub left : ℕ
    pub enough : length b ≤ o + left
    pub low : o ≤ 65536
    pub same : set_from (length b) b t end registers before ≡ set_from left b t end o im

  pub left_all : registers ≤ 65536 → Left registers before
  left_all h = record { left = length b; enough = omega arith; low = h; same = refl }

  module _ {o : ℕ} {im : Images} (l : Left o im) where
    pub left_low : o ≤ 65536
    left_low = l.low

    pub left_next : {i : ℕ} {part : List ℕ} {next : Images} → end ≤ length b → length b ≤ 65536 → o + 66 ≤ end → i ≡ byte_in b (o + 1)
        → part ≡ registers_in b o → next ≡ set_node t im i part → Left (o + 66) next
    unfolding set_from
    left_next {next = next} long most h e p n = go l.left l.enough l.same
      where
        go : (left : ℕ) → length b ≤ o + left → set_from (length b) b t end registers before ≡ set_from left b t end o im → Left (o + 66) next
        go zero m q = absurd (omega (arith, h, long))
        go (suc left) m q =
            record { left = left; enough = omega arith; low = omega (arith, h, long, most); same = q ∙ rw (le-ltb end (o + 66) h, n, e, p) }

    pub left_none : end < o + 66 → im ≡ set_from (length b) b t end registers before
    unfolding set_from
    left_none h = sym (l.same ∙ none l.left)
      where
        none : (left : ℕ) → set_from left b t end o im ≡ im
        none zero = refl
        none (suc left) = rw (lt-ltb end (o + 66) h)

-- from reset on
pub started : (b : List ℕ) (t : Tree) (registers end : ℕ) (im : Images) {reset after : Images} → reset ≡ reset_images t im
    → after ≡ set_from (length b) b t end registers reset → after ≡ start_from b t registers end im
started b t registers end im r e = e ∙ ap (set_from (length b) b t end registers) r
