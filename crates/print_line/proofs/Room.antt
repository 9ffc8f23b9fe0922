-- The room behind a line's text, which is zero, once a word is put there: `n` bytes, put in at `a`.
use Rattle.std.specs.Prelude.{◌≡◌, ℕ, ◌+◌, ◌-◌, ◌≤◌, List, ◌++◌, length, take, drop, replicate}
use Rattle.std.proofs.Common.{sym, ◌∙◌, ap, arith, length-append, length-take, length-drop, drop-drop}
use Rattle.std.proofs.lemmas.List.{drop-replicate}
use Rattle.std.proofs.lemmas.Slice.{take-put_mid, drop-put_mid}
use borrow.Rule.Slice.PartMut.{put_mid}

module _ (a n : ℕ) (line word : List ℕ) (fits : a + n ≤ 96) (long : length line ≡ 96) (all : length word ≡ n) where
  abbrev pub put : List ℕ
  put = put_mid a (a + n - a) line word

  pub put_long : length put ≡ 96
  put_long =
      let k = a + n - a in
      let rest = drop k (drop a line) in
      omega (
        arith,
        length-append (take a line) (word ++ rest),
        length-append word rest,
        length-take a line,
        length-drop k (drop a line),
        length-drop a line,
      )

  pub put_text : take (a + n) put ≡ take a line ++ word
  put_text = take-put_mid a (a + n - a) line word (a + n) (omega arith) (omega arith)

  pub put_room : drop a line ≡ replicate (96 - a) 0 → drop (a + n) put ≡ replicate (96 - (a + n)) 0
  put_room room =
      drop-put_mid a (a + n - a) line word (a + n) (omega arith) (omega arith) (omega arith)
      ∙ sym (drop-drop n a line) ∙ ap (drop n) room ∙ drop-replicate n (96 - a) 0
      ∙ ap (λ m. replicate m 0) (omega arith)
