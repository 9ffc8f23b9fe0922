-- 'Refused, in this order': the first number that applies. A number stands beside its test or is one already found; 0 is none.
use Rattle.std.specs.Prelude.{ℕ, zero, suc, ◌+◌, ◌<◌, Bool, cond, List, [], ◌∷◌, eqb, ◌≡◌}

infix 68 ◌when◌
infixr 66 ◌or◌
-- a number where its test holds
abbrev pub ◌when◌ : ℕ → Bool → ℕ
n when b = cond b n 0

-- a number, or where it is 0 the next
abbrev pub ◌or◌ : ℕ → ℕ → ℕ
n or m = cond (eqb n 0) m n

-- the first of a list that is not 0; 0 where all are
unfoldable pub first : List ℕ → ℕ
first [] = 0
first (n ∷ ns) = n or first ns

-- the first that is not 0 at the `left` places from i on
unfoldable pub first_from : (ℕ → ℕ) → ℕ → ℕ → ℕ
first_from f i zero = 0
first_from f i (suc left) = f i or first_from f (i + 1) left

-- what is given where there is no number, and what is made of one
unfoldable pub unless : {A : Type 0} → ℕ → A → (ℕ → A) → A
unless n given refused = cond (eqb n 0) given (refused n)

-- n applies at a place below `count`, and at no earlier place does any number
pub record First (f : ℕ → ℕ) (count n : ℕ) : Type 0 where
  pub place : ℕ
  pub inside : place < count
  pub earlier : (j : ℕ) → j < place → f j ≡ 0
  pub here : f place ≡ n
  pub applies : n ≡ 0 → ⊥
