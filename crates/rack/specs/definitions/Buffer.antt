-- What a call leaves in a buffer that it is lent.
use Rattle.std.specs.Prelude.{List, ◌++◌, ℕ, ◌+◌, length, take, drop}

-- a buffer with bytes written over it from an index on: every byte before them and after them stays
unfoldable pub placed : ℕ → List ℕ → List ℕ → List ℕ
placed at bytes old = take at old ++ (bytes ++ drop (at + length bytes) old)

-- with bytes written over its start
abbrev pub over_start : List ℕ → List ℕ → List ℕ
over_start old bytes = bytes ++ drop (length bytes) old
