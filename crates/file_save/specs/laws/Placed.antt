-- Bytes written one after another.
use Rattle.std.specs.Prelude.{◌≡◌, refl, List, [], ◌++◌, ℕ, ◌+◌, ◌≤◌, length, take, drop}
use Rattle.std.proofs.Common.{sym, ap, ◌∙◌, append_assoc, arith, zero-add, add-zero, length-append, length-drop, take-append-drop, length-take-le, take_at, drop_at, drop-drop}
use Rattle.rack.specs.definitions.Buffer.{placed, over_start}

pub placed_opened : (at : ℕ) (s old : List ℕ) → placed at s old ≡ take at old ++ (s ++ drop (at + length s) old)
unfolding placed
placed_opened at s old = refl

-- nothing written; at the start
pub placed_none : (at : ℕ) (old : List ℕ) → placed at [] old ≡ old
unfolding placed
placed_none at old = ap (λ (n : ℕ). take at old ++ drop n old) (add-zero at) ∙ take-append-drop at old

pub placed_start : (s old : List ℕ) → placed 0 s old ≡ over_start old s
unfolding placed
placed_start s old = ap (λ (n : ℕ). s ++ drop n old) (zero-add (length s))

module _ (at : ℕ) (a old : List ℕ) (fits : at + length a ≤ length old) where
  head_long : length (take at old ++ a) ≡ at + length a
  head_long = omega (arith, length-append (take at old) a, length-take-le at old (omega arith))

  -- what stands up to the end of the bytes, and what stands after them
  grouped : placed at a old ≡ (take at old ++ a) ++ drop (at + length a) old
  grouped = placed_opened at a old ∙ sym (append_assoc (take at old) a (drop (at + length a) old))

  up_to : take (at + length a) (placed at a old) ≡ take at old ++ a
  up_to = ap (take (at + length a)) grouped ∙ take_at (take at old ++ a) (drop (at + length a) old) (at + length a) head_long

  after : drop (at + length a) (placed at a old) ≡ drop (at + length a) old
  after = ap (drop (at + length a)) grouped ∙ drop_at (take at old ++ a) (drop (at + length a) old) (at + length a) head_long

  rest : (n : ℕ) → drop (at + length a + n) (placed at a old) ≡ drop (at + length a + n) old
  rest n = sym (drop-drop n (at + length a) (placed at a old)) ∙ ap (drop n) after ∙ drop-drop n (at + length a) old

  -- the buffer is as long as it was
  pub placed_length : length (placed at a old) ≡ length old
  placed_length =
      let parts = length-append (take at old ++ a) (drop (at + length a) old) in
      omega (arith, ap length grouped, parts, head_long, length-drop (at + length a) old)

  -- bytes written after others are written with them
  pub placed_both : (b : List ℕ) → placed (at + length a) b (placed at a old) ≡ placed at (a ++ b) old
  placed_both b =
      let tail = drop (at + length a + length b) old in
      let end : at + length a + length b ≡ at + length (a ++ b) = omega (arith, length-append a b) in
      placed_opened (at + length a) b (placed at a old)
      ∙ rw (up_to, rest (length b)) (append_assoc (take at old) a (b ++ tail))
      ∙ ap (λ (l : List ℕ). take at old ++ l) (sym (append_assoc a b tail))
      ∙ ap (λ (n : ℕ). take at old ++ (a ++ b ++ drop n old)) end
      ∙ sym (placed_opened at (a ++ b) old)
