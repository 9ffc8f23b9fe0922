-- Numbers in a file. 01: 'bytes are little-endian'.
use Rattle.std.specs.Prelude.{ℕ, ◌+◌, ◌*◌, List, get_or}

-- the byte at an offset; 0 past the end
abbrev pub byte_in : List ℕ → ℕ → ℕ
byte_in b o = get_or b o 0

abbrev pub word_in : List ℕ → ℕ → ℕ
word_in b o = byte_in b (o + 1) * 256 + byte_in b o

abbrev pub dword_in : List ℕ → ℕ → ℕ
dword_in b o = word_in b (o + 2) * 65536 + word_in b o

abbrev pub qword_in : List ℕ → ℕ → ℕ
qword_in b o = dword_in b (o + 4) * 4294967296 + dword_in b o
