-- What a search below a number says of each number below it.
use Rattle.std.specs.Prelude.{◌≡◌, refl, Bool, true, false, ℕ, zero, suc, ◌+◌, ◌≤◌, ◌<◌, eqb}
use Rattle.std.proofs.Common.{sym, ap, ◌∙◌, arith, eqb-true}
use Rattle.std.proofs.lemmas.Bool.{false≢true, eqb-false}
use Rattle.rack.specs.laws.Bools.{tested, not_fails, neither}
use Rattle.rack.specs.definitions.Count.{some, some_from}

pub from_none : (f : ℕ → Bool) (i left : ℕ) → some_from f i left ≡ false → (k : ℕ) → i ≤ k → k < i + left → f k ≡ false
unfolding some_from
from_none f i zero e k a b = absurd (omega arith)
from_none f i (suc left) e k a b =
    tested (eqb k i) (λ q. ap f (eqb-true k i q) ∙ (neither (f i) _ e).0)
    (λ q. from_none f (i + 1) left (neither (f i) _ e).1 k (omega (arith, eqb-false k i q)) (omega arith))

pub from_all : (f : ℕ → Bool) (i left : ℕ) → ((k : ℕ) → i ≤ k → k < i + left → f k ≡ false) → some_from f i left ≡ false
unfolding some_from
from_all f i zero h = refl
from_all f i (suc left) h =
    rw (h i (omega arith) (omega arith)) (from_all f (i + 1) left (λ k a b. h k (omega arith) (omega arith)))

pub from_found : (f : ℕ → Bool) (i left : ℕ) → some_from f i left ≡ true → (k : ℕ) × (k < i + left) × (f k ≡ true)
unfolding some_from
from_found f i zero e = absurd (false≢true e)
from_found f i (suc left) e =
    tested (f i) (λ q. (i, omega arith, q))
    (λ q.
    let r : some_from f (i + 1) left ≡ true = rw q at e in
    let s = from_found f (i + 1) left r in
    (s.0, omega (arith, s.1), s.2))

-- a search that finds nothing: no number below n passes
pub none : (f : ℕ → Bool) (n : ℕ) → some f n ≡ false → (k : ℕ) → k < n → f k ≡ false
none f n e k h = from_none f 0 n e k (omega arith) (omega arith)

-- and the converse
pub none_all : (f : ℕ → Bool) (n : ℕ) → ((k : ℕ) → k < n → f k ≡ false) → some f n ≡ false
none_all f n h = from_all f 0 n (λ k a b. h k (omega arith))

-- a search that finds: a number below n passes
pub found : (f : ℕ → Bool) (n : ℕ) → some f n ≡ true → (k : ℕ) × (k < n) × (f k ≡ true)
found f n e = let s = from_found f 0 n e in (s.0, omega (arith, s.1), s.2)

-- and the converse
pub found_at : (f : ℕ → Bool) (n k : ℕ) → k < n → f k ≡ true → some f n ≡ true
found_at f n k h e = not_fails (some f n) (λ q. false≢true (sym (none f n q k h) ∙ e))

from_same : (f g : ℕ → Bool) (i left : ℕ) → ((k : ℕ) → i ≤ k → k < i + left → f k ≡ g k) → some_from f i left ≡ some_from g i left
unfolding some_from
from_same f g i zero s = refl
from_same f g i (suc left) s =
    rw (s i (omega arith) (omega arith), from_same f g (i + 1) left (λ k a b. s k (omega arith) (omega arith)))

-- tests that agree below n are searched alike
pub some_same : (f g : ℕ → Bool) (n : ℕ) → ((k : ℕ) → k < n → f k ≡ g k) → some f n ≡ some g n
some_same f g n s = from_same f g 0 n (λ k a b. s k (omega arith))
