-- One digit more, in hexadecimal and in decimal, and how many digits a number has.
use Rattle.std.specs.Prelude.{◌≡◌, refl, ℕ, zero, suc, ◌+◌, ◌-◌, ◌/◌, ◌%◌, ◌^◌, ◌<◌, ◌≤◌, List, [], ◌∷◌, ◌++◌, ltb, length}
use Rattle.std.proofs.Common.{sym, arith, pow-suc, sub-one, lt-ltb, le-ltb, ltb-false, append_assoc, append-nil, length-append}
use Rattle.rack.specs.laws.Bools.{tested}
use Rattle.print_line.specs.definitions.Text.{hex_digit, hex_of, decimal_up_to, decimal_of}

hex_step : (k x : ℕ) → (k ≡ 0 → ⊥) → hex_of k x ≡ hex_of (k - 1) (x / 16) ++ (hex_digit (x % 16) ∷ [])
unfolding hex_of
hex_step zero x h = absurd (h refl)
hex_step (suc k) x h = rw (sub-one (suc k))

-- no digit, and the lowest digit after the others, behind a text
pub hex_none : (s : List ℕ) (k x : ℕ) → k ≡ 0 → s ≡ s ++ hex_of k x
unfolding hex_of
hex_none s k x e = rw e (sym (append-nil s))

pub hex_more : (s : List ℕ) (k x : ℕ) {m r : List ℕ} {b : ℕ} → (k ≡ 0 → ⊥) → m ≡ s ++ hex_of (k - 1) (x / 16) → b ≡ hex_digit (x % 16)
    → r ≡ m ++ (b ∷ []) → r ≡ s ++ hex_of k x
hex_more s k x h em eb er = rw (er, em, eb, hex_step k x h) (append_assoc s (hex_of (k - 1) (x / 16)) (hex_digit (x % 16) ∷ []))

pub hex_length : (k x : ℕ) → length (hex_of k x) ≡ k
unfolding hex_of
hex_length zero x = refl
hex_length (suc k) x = omega (arith, length-append (hex_of k (x / 16)) (hex_digit (x % 16) ∷ []), hex_length k (x / 16))

-- a bound that is large enough does not matter
decimal_enough : (k j x : ℕ) → x ≤ k → x ≤ j → decimal_up_to k x ≡ decimal_up_to j x
unfolding decimal_up_to
decimal_enough zero zero x p q = refl
decimal_enough zero (suc j) x p q = rw (lt-ltb x 10 (omega arith))
decimal_enough (suc k) zero x p q = rw (lt-ltb x 10 (omega arith))
decimal_enough (suc k) (suc j) x p q =
    tested (ltb x 10)
    (λ t. rw t)
    (λ f. rw (f, decimal_enough k j (x / 10) (omega (arith, ltb-false x 10 f)) (omega (arith, ltb-false x 10 f))))

-- a number of one digit
decimal_last : (x : ℕ) → x < 10 → decimal_of x ≡ (48 + x) ∷ []
unfolding decimal_of decimal_up_to
decimal_last zero d = refl
decimal_last (suc x) d = rw (lt-ltb (suc x) 10 d)

decimal_step : (x : ℕ) → 10 ≤ x → decimal_of x ≡ decimal_of (x / 10) ++ ((48 + x % 10) ∷ [])
unfolding decimal_of decimal_up_to
decimal_step zero d = absurd (omega arith)
decimal_step (suc x) d = rw (le-ltb (suc x) 10 d, decimal_enough x (suc x / 10) (suc x / 10) (omega arith) (omega arith))

-- behind a text: one digit, and the lowest digit after the others
pub decimal_one : (s : List ℕ) (x : ℕ) {r : List ℕ} → x < 10 → r ≡ s ++ ((48 + x) ∷ []) → r ≡ s ++ decimal_of x
decimal_one s x d e = rw (decimal_last x d) e

pub decimal_more : (s : List ℕ) (x : ℕ) {m r : List ℕ} → 10 ≤ x → m ≡ s ++ decimal_of (x / 10) → r ≡ m ++ ((48 + x % 10) ∷ [])
    → r ≡ s ++ decimal_of x
decimal_more s x d em er = rw (er, em, decimal_step x d) (append_assoc s (decimal_of (x / 10)) ((48 + x % 10) ∷ []))

pub decimal_once : (x : ℕ) → x < 10 → length (decimal_of x) ≡ 1
decimal_once x d = rw (decimal_last x d)

pub decimal_longer : (x : ℕ) → 10 ≤ x → length (decimal_of x) ≡ length (decimal_of (x / 10)) + 1
decimal_longer x d = rw (decimal_step x d) (length-append (decimal_of (x / 10)) ((48 + x % 10) ∷ []))

-- a number below 10 to the k + 1 has at most k + 1 digits
decimal_short : (k j x : ℕ) → x < 10 ^ suc k → length (decimal_up_to j x) ≤ suc k
unfolding decimal_up_to
decimal_short k zero x h = omega arith
decimal_short zero (suc j) x h = rw (lt-ltb x 10 h) (omega arith)
decimal_short (suc k) (suc j) x h =
    tested (ltb x 10)
    (λ t. rw t (omega arith))
    (λ f.
    let fewer : x / 10 < 10 ^ suc k = omega (arith, pow-suc 10 (suc k)) in
    rw (f, length-append) (omega (arith, decimal_short k j (x / 10) fewer)))

-- a u32 has at most 10 digits
pub decimal_ten : (x : ℕ) → x < 2 ^ 32 → length (decimal_of x) ≤ 10
unfolding decimal_of
decimal_ten x h = decimal_short 9 x x (omega arith)
