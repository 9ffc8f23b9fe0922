-- What is read from standard input.
use Rattle.std.specs.Prelude.{◌≡◌, ℕ, ◌≤◌, List, length, take, Result, IfOk}

-- the bytes that were read stand within the buffer
abbrev pub Within : {E : Type 0} → Result ℕ E → List ℕ → Type 0
Within r buffer = IfOk r (λ n. (n ≤ length buffer) × (n ≡ length (take n buffer)))
