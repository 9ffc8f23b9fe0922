-- Numbers with zeros after them, and what is told of a reply.
use Rattle.std.specs.Prelude.{◌≡◌, ℕ, ◌+◌, ◌-◌, ◌≤◌, List, ◌++◌, length, take, drop, Ok, Err, MatchResult, IsOkAnd}
use Rattle.std.specs.Result.{result_unwrap_or}
use Rattle.std.proofs.Common.{sym, ap, ◌∙◌, arith}
use Rattle.std.proofs.lemmas.List.{drop-replicate, take-replicate}
use Rattle.std.proofs.Math.Seq.{take-append-add}
use Rattle.call_table.specs.definitions.Call.{Reply}
use Rattle.call_numbers.specs.definitions.Numbers.{zeros, told_code}

pub padded : (xs : List ℕ) → length xs ≤ 8 → xs ++ drop (length xs) zeros ≡ take 8 (xs ++ zeros)
padded xs h =
    let n = length xs in
    let e : 8 ≡ n + (8 - n) = omega arith in
    let l : 8 - n ≤ 8 = omega arith in
    ap (λ (ys : List ℕ). xs ++ ys) (drop-replicate n 8 0 ∙ sym (take-replicate (8 - n) 8 0 l))
    ∙ sym (ap (λ (k : ℕ). take k (xs ++ zeros)) e ∙ take-append-add xs zeros (8 - n))

-- a reply that was made numbers
module _ {A : Type 0} (code : Reply A → ℕ) (numbers : Reply A → List ℕ) (f : A → List ℕ) (accepted : (x : A) → 0 ≡ code (Ok x))
    (given : (x : A) → f x ≡ numbers (Ok x)) (refused : (n : ℕ) → n ≡ code (Err n)) (none : (n : ℕ) → zeros ≡ numbers (Err n)) where
  pub made : (r : Reply A) (m : Reply (List ℕ)) → MatchResult r (λ x. IsOkAnd m (λ ns. ns ≡ f x)) (λ e. m ≡ Err e)
      → (told_code m ≡ code r) × (result_unwrap_or m zeros ≡ numbers r)
  made (Ok x) (Ok ns) h = (accepted x, h ∙ given x)
  made (Ok x) (Err e) h = absurd h
  made (Err e) m h = rw h (refused e, none e)
