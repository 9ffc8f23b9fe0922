-- What is asked of a table: the number of a pair, a write, a seat, a seat record.
use mathlib.Core.Path.{◌≡◌, sym, ◌∙◌}
use mathlib.Core.Bool.{Bool, not, true, false, ◌&&◌, ◌||◌, or-false}
use mathlib.Core.List.{List}
use Prim.Native.Nat.{ℕ, ◌/◌, ◌%◌, ◌≤◌, ◌<◌}
use lib.Dec.{leb, ltb, eqb}
use lib.ListN.{get_or}
use borrow.Author.Tests.{ne_eqb, lt-leb}
use Rattle.rack.specs.definitions.Count.{some}
use Rattle.seat.specs.declared.SeatRecord.{SeatRecord}
use Rattle.seat.specs.definitions.Grants.{Grants, acting, has_dword, may_write, unknown_seat, seat_wrong, is_pair, slot}
use Rattle.seat.specs.definitions.Table.{number_at, grants_of}
use Rattle.seat.specs.laws.Writing.{high_may, unknown_zero}

-- what the number of a pair says
module _ (table : List ℕ) (seat node : ℕ) where
  pub number_in : {at n : ℕ} → is_pair seat node ≡ true → at ≡ slot seat node → n ≡ get_or table at 0 → n ≡ number_at table seat node
  unfolding number_at
  number_in e a q = q ∙ rw (e, a)

  pub number_out : is_pair seat node ≡ false → 0 ≡ number_at table seat node
  unfolding number_at
  number_out e = rw e

  module _ (register : ℕ) where
    pub may_high : 64 ≤ register → true ≡ may_write (acting (grants_of table) seat) node register
    may_high h = sym (high_may (acting (grants_of table) seat) node register h)

    pub may_by_grant : {n : ℕ} {b : Bool} → register < 64 → n ≡ number_at table seat node → b ≡ has_dword (n % 65536) (register / 4)
        → eqb seat 0 || (leb 65536 n && b) ≡ may_write (acting (grants_of table) seat) node register
    unfolding may_write
    may_by_grant l q e = rw (lt-leb 64 register l, or-false (eqb seat 0), e, q)

pub known_zero : (g : Grants) (seat : ℕ) → seat ≡ 0 → false ≡ unknown_seat g seat
known_zero g seat e = sym (unknown_zero g seat e)

-- a seat other than 0, by whether it is named with some node
pub unknown_not_named : (g : Grants) (seat : ℕ) {b : Bool} → (seat ≡ 0 → ⊥) → b ≡ some (λ node. (g.grant seat node).named) 96 → not b ≡ unknown_seat g seat
unfolding unknown_seat
unknown_not_named g seat ne e = rw (ne_eqb seat 0 ne, e)

-- refusal 14, as it is asked
pub wrong_by : (count : ℕ) (g : Grants) (r : SeatRecord) {b : Bool} → b ≡ (g.grant r.seat r.node).named
    → (leb count r.node || (ltb r.seat 1 || ltb 15 r.seat)) || b ≡ seat_wrong count g r
unfolding seat_wrong
wrong_by count g r e = rw e
