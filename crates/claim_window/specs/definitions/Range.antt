-- Ranges of addresses. Both ends are in, since one past the end may not fit; a range whose first is above its last is empty.
use Rattle.std.specs.Prelude.{ℕ, ◌+◌, ◌-◌, ◌*◌, ◌^◌, Bool, ◌&&◌, leb, ltb}
use Rattle.rack.specs.declared.Range.{Range}

abbrev pub range : ℕ → ℕ → Range
range first last = record { first = first; last = last }

abbrev pub empty : Range
empty = range 1 0

-- 01: 'Base above limit is an empty window'
abbrev pub within : Range → ℕ → Bool
within r a = leb r.first a && leb a r.last

-- no address is in it
abbrev pub is_empty : Range → Bool
is_empty r = ltb r.last r.first

-- 01: 'base to limit .. limit filled with ones': from granule `base` to granule `limit`, granules of 2 to the k addresses
abbrev pub window : ℕ → ℕ → ℕ → Range
window k base limit = range (base * 2 ^ k) (limit * 2 ^ k + (2 ^ k - 1))
