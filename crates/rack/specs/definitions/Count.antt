-- Counting and searching below a number.
use Rattle.std.specs.Prelude.{ℕ, zero, suc, ◌+◌, Bool, false, ◌||◌, cond, Option, Some, None}

-- how many numbers below n pass the test
unfoldable pub count_of : (ℕ → Bool) → ℕ → ℕ
count_of f zero = 0
count_of f (suc n) = count_of f n + cond (f n) 1 0

-- whether one of the `left` numbers from i on passes the test
unfoldable pub some_from : (ℕ → Bool) → ℕ → ℕ → Bool
some_from f i zero = false
some_from f i (suc left) = f i || some_from f (i + 1) left

-- whether a number below n passes the test
abbrev pub some : (ℕ → Bool) → ℕ → Bool
some f n = some_from f 0 n

-- the first of the `left` numbers from i on that passes the test
unfoldable pub find_from : (ℕ → Bool) → ℕ → ℕ → Option ℕ
find_from f i zero = None
find_from f i (suc left) = cond (f i) (Some i) (find_from f (i + 1) left)

-- the first number below n that passes the test
abbrev pub find : (ℕ → Bool) → ℕ → Option ℕ
find f n = find_from f 0 n
