-- The seats of a class and what each may write. Sentences are those of document 02, E1.
use Rattle.std.specs.Prelude.{ℕ, ◌+◌, ◌-◌, ◌*◌, ◌/◌, ◌%◌, ◌^◌, Bool, true, false, not, ◌&&◌, ◌||◌, cond, leb, ltb, eqb, get_or}
use Rattle.rack.specs.declared.Grant.{Grant}
use Rattle.rack.specs.declared.Rack.{Rack}
use Rattle.rack.specs.definitions.Count.{some}
use Rattle.seat.specs.declared.SeatRecord.{SeatRecord}

-- of each seat and node whether a seat record names the two together, and its mask; and whether a seat record is faulty, which is 14.
-- They belong to a rack and not to its tree, over which claims, routes and the check are defined
pub record Grants : Type 0 where
  pub grant : ℕ → ℕ → Grant
  pub wrong : Bool

abbrev pub no_grant : Grant
no_grant = record { named = false; mask = 0 }

-- a rack without seat records
abbrev pub no_grants : Grants
no_grants = record { grant = λ seat node. no_grant; wrong = false }

-- who acts: a seat, with the grants of the rack
pub record Acting : Type 0 where
  pub grants : Grants
  pub seat : ℕ

abbrev pub acting : Grants → ℕ → Acting
acting g seat = record { grants = g; seat = seat }

-- 'two-byte mask, bit i for dword i'
abbrev pub has_dword : ℕ → ℕ → Bool
has_dword mask i = eqb (mask / 2 ^ i % 2) 1

-- the register is within the seat's grant: a record names seat and node, and its mask has the register's dword
abbrev pub is_granted : Acting → ℕ → ℕ → Bool
is_granted by node register =
    (by.grants.grant by.seat node).named && has_dword (by.grants.grant by.seat node).mask (register / 4)

-- 'the run starts as seat 0, which may write all'; 'Reads, and writes to 40h and above, are never denied'
unfoldable pub may_write : Acting → ℕ → ℕ → Bool
may_write by node register = (eqb by.seat 0 || leb 64 register) || is_granted by node register

-- 15: 'a seat other than 0 without a record'. A record with mask 0 is one too
unfoldable pub unknown_seat : Grants → ℕ → Bool
unknown_seat g seat = not (eqb seat 0 || some (λ node. (g.grant seat node).named) 96)

-- 14: 'A seat record that names no earlier node, a seat outside 1 to 15, or a seat and node already named together'; `count` nodes are
-- earlier
unfoldable pub seat_wrong : ℕ → Grants → SeatRecord → Bool
seat_wrong count g r =
    (leb count r.node || (ltb r.seat 1 || ltb 15 r.seat)) || (g.grant r.seat r.node).named

-- a seat record taken in; a faulty one is noted and grants nothing
abbrev pub granting : Grants → SeatRecord → Grants
granting g r =
    record {
      grant = λ seat node.
          cond (eqb seat r.seat && eqb node r.node) (record { named = true; mask = r.mask }) (g.grant seat node);
      wrong = g.wrong;
    }

abbrev pub faulty : Grants → Grants
faulty g = record { grant = g.grant; wrong = true }

unfoldable pub seated : ℕ → Grants → SeatRecord → Grants
seated count g r = cond (seat_wrong count g r) (faulty g) (granting g r)

-- the pairs of seats 1 to 15 and 96 nodes, and their places, seat by seat
abbrev pub is_pair : ℕ → ℕ → Bool
is_pair seat node = (leb 1 seat && leb seat 15) && ltb node 96

abbrev pub slot : ℕ → ℕ → ℕ
slot seat node = 96 * (seat - 1) + node

-- 02, E2: 'Grants are compared as a set': the mask of a pair that is not named is no content
abbrev pub own_grant : Grant → Grant
own_grant g = cond g.named g no_grant

-- the grants of a decoded rack; there 14 is a named pair whose node is missing
abbrev pub named_missing : Rack → ℕ → Bool
named_missing rack k = (get_or rack.grants k no_grant).named && leb rack.count (k % 96)

abbrev pub grants : Rack → Grants
grants rack =
    record {
      grant = λ seat node. cond (is_pair seat node) (own_grant (get_or rack.grants (slot seat node) no_grant)) no_grant;
      wrong = some (named_missing rack) 1440;
    }
