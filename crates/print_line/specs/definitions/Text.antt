-- Numbers and words as text: lists of byte codes (ASCII).
use Rattle.std.specs.Prelude.{ℕ, zero, suc, ◌+◌, ◌/◌, ◌%◌, cond, List, [], ◌∷◌, ◌++◌, ltb}
use Prim.Native.Char.{code}
use Prim.Native.String.{String, [] as empty, ◌∷◌ as ◌then◌}

-- 01: 'Hex digits are upper case': '0' is 48, 'A' is 65
abbrev pub hex_digit : ℕ → ℕ
hex_digit d = cond (ltb d 10) (48 + d) (55 + d)

-- the k lowest hexadecimal digits of x, the highest of them first
unfoldable pub hex_of : ℕ → ℕ → List ℕ
hex_of zero x = []
hex_of (suc k) x = hex_of k (x / 16) ++ (hex_digit (x % 16) ∷ [])

-- x in decimal, without leading zeros, for an x up to k; k bounds how often x is divided
unfoldable pub decimal_up_to : ℕ → ℕ → List ℕ
decimal_up_to zero x = (48 + x) ∷ []
decimal_up_to (suc k) x = cond (ltb x 10) ((48 + x) ∷ []) (decimal_up_to k (x / 10) ++ ((48 + x % 10) ∷ []))

-- 01: 'decimal fields'; 0 is '0'
unfoldable pub decimal_of : ℕ → List ℕ
decimal_of x = decimal_up_to x x

-- the codes of a text's characters
unfoldable pub codes_of : String → List ℕ
codes_of empty = []
codes_of (c then s) = code c ∷ codes_of s
