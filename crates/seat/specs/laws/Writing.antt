-- What a seat may write, and which seats and seat records are refused.
use Rattle.std.specs.Prelude.{◌≡◌, refl, Bool, true, false, ◌||◌, ℕ, ◌/◌, ◌≤◌, ◌<◌, ltb, eqb}
use Rattle.std.proofs.Common.{sym, ◌∙◌, arith}
use Rattle.std.proofs.Math.Path.{ap}
use Rattle.std.proofs.Math.Dec.{leb}
use borrow.Author.Tests.{ltb-false, leb-true, leb-false, eqb-false, le-leb, lt-leb, eq-eqb, ne_eqb}
use Rattle.rack.specs.laws.Bools.{tested, neither}
use Rattle.rack.specs.laws.Search.{none_all}
use Rattle.seat.specs.declared.SeatRecord.{SeatRecord}
use Rattle.seat.specs.definitions.Grants.{Grants, Acting, no_grants, is_granted, may_write, unknown_seat, seat_wrong}

or_passes : (a b : Bool) → b ≡ true → a || b ≡ true
or_passes true b e = refl
or_passes false b e = e

-- of the registers of a dword all are at 40h and above, or none is
high_same : (register k : ℕ) → register / 4 ≡ k / 4 → leb 64 register ≡ leb 64 k
high_same register k e =
    tested (leb 64 k)
    (λ q. le-leb 64 register (omega (arith, leb-true 64 k q)) ∙ sym q)
    (λ q. lt-leb 64 register (omega (arith, leb-false 64 k q)) ∙ sym q)

module _ (by : Acting) (node register : ℕ) where
  -- seat 0 may write all
  pub zero_may : by.seat ≡ 0 → may_write by node register ≡ true
  unfolding may_write
  zero_may e = rw (eq-eqb by.seat 0 e)

  -- every seat may write at 40h and above
  pub high_may : 64 ≤ register → may_write by node register ≡ true
  unfolding may_write
  high_may h = ap (λ (b : Bool). b || is_granted by node register) (or_passes (eqb by.seat 0) (leb 64 register) (le-leb 64 register h))

  -- a seat may write what it is granted
  pub granted_may : is_granted by node register ≡ true → may_write by node register ≡ true
  unfolding may_write
  granted_may e = or_passes (eqb by.seat 0 || leb 64 register) (is_granted by node register) e

  -- below 40h a seat other than 0 may write nothing else
  pub may_granted : (by.seat ≡ 0 → ⊥) → register < 64 → may_write by node register ≡ is_granted by node register
  unfolding may_write
  may_granted ne l = rw (ne_eqb by.seat 0 ne, lt-leb 64 register l)

  -- a denied write: by a seat other than 0, below 40h, outside its grant
  pub may_not : may_write by node register ≡ false
      → (by.seat ≡ 0 → ⊥) × (register < 64) × (is_granted by node register ≡ false)
  unfolding may_write
  may_not e =
      let granted = neither (eqb by.seat 0 || leb 64 register) (is_granted by node register) e in
      let seat = neither (eqb by.seat 0) (leb 64 register) granted.0 in
      (eqb-false by.seat 0 seat.0, leb-false 64 register seat.1, granted.1)

-- registers of one dword are written alike
pub same_dword : (by : Acting) (node register k : ℕ) → register / 4 ≡ k / 4 → may_write by node register ≡ may_write by node k
unfolding may_write
same_dword by node register k e = rw (high_same register k e, e)

-- seat 0 needs no record
pub unknown_zero : (g : Grants) (seat : ℕ) → seat ≡ 0 → unknown_seat g seat ≡ false
unfolding unknown_seat
unknown_zero g seat e = rw (eq-eqb seat 0 e)

-- without seat records every other seat is unknown
pub none_unknown : (seat : ℕ) → (seat ≡ 0 → ⊥) → unknown_seat no_grants seat ≡ true
unfolding unknown_seat
none_unknown seat ne = rw (ne_eqb seat 0 ne, none_all (λ node. (no_grants.grant seat node).named) 96 (λ k h. refl))

-- a record without a fault names an earlier node and a seat of 1 to 15 that were not named together
pub sound_pair : (count : ℕ) (g : Grants) (r : SeatRecord) → seat_wrong count g r ≡ false
    → (r.node < count) × (1 ≤ r.seat) × (r.seat ≤ 15) × ((g.grant r.seat r.node).named ≡ false)
unfolding seat_wrong
sound_pair count g r e =
    let named = neither (leb count r.node || (ltb r.seat 1 || ltb 15 r.seat)) (g.grant r.seat r.node).named e in
    let node = neither (leb count r.node) (ltb r.seat 1 || ltb 15 r.seat) named.0 in
    let seat = neither (ltb r.seat 1) (ltb 15 r.seat) node.1 in
    (leb-false count r.node node.0, ltb-false r.seat 1 seat.0, ltb-false 15 r.seat seat.1, named.1)
