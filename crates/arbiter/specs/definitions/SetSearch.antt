-- The search as the code makes it: the requesting places of a ring are a set, and one search serves both rings.
use Rattle.std.specs.Prelude.{◌≡◌, ℕ, ◌-◌, ◌<◌, Bool, ◌&&◌, List}
use Rattle.arbiter.specs.definitions.Rings.{◌has◌, up_from, is_in, onwards, first_of}

-- a set that has exactly the requesting places of a ring; there are eleven places, 0 to 10
abbrev pub Requesting : ℕ → List ℕ → (ℕ → Bool) → Type 0
Requesting set ring requests = (p : ℕ) → p < 11 → (set has p) ≡ (is_in p ring && requests p)

-- the first place of a set from one on, and the next after one, going round
unfoldable pub first_from : ℕ → ℕ → ℕ
first_from set from = first_of (λ p. set has p) (up_from from (11 - from))

unfoldable pub next_in : ℕ → ℕ → ℕ
next_in set last = first_of (λ p. set has p) (onwards last (up_from 0 11))
