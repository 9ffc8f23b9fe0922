-- How grants are stored for lending: a number for each pair of seat and node, and one after them. Contracts of code above name
-- `grants_of`; the rest is for this crate alone.
use Rattle.std.specs.Prelude.{ℕ, ◌+◌, ◌%◌, not, cond, List, leb, eqb, get_or}
use Rattle.rack.specs.declared.Grant.{Grant}
use Rattle.seat.specs.definitions.Grants.{Grants, is_pair, slot}

-- a grant as a number: 65,536 and its mask, or 0 where it is not named
abbrev pub grant_number : Grant → ℕ
grant_number g = cond g.named (65536 + g.mask) 0

abbrev pub grant_from : ℕ → Grant
grant_from n = record { named = leb 65536 n; mask = n % 65536 }

-- the number of a pair, 0 where a table has none
unfoldable pub number_at : List ℕ → ℕ → ℕ → ℕ
number_at table seat node = cond (is_pair seat node) (get_or table (slot seat node) 0) 0

-- the grants that a table holds
abbrev pub grants_of : List ℕ → Grants
grants_of table =
    record { grant = λ seat node. grant_from (number_at table seat node); wrong = not (eqb (get_or table 1440 0) 0) }
