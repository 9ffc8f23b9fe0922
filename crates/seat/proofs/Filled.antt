-- A table that is filled: what an empty one holds, one with a record more, and one with the grants of a rack.
use mathlib.Core.Path.{◌≡◌, refl, sym, ap, ◌∙◌}
use mathlib.Core.Bool.{Bool, true, false, cond, ◌&&◌, and-false, true≢false}
use mathlib.Core.List.{List}
use Prim.Native.Nat.{ℕ, zero, suc, ◌+◌, ◌%◌, ◌≤◌, ◌<◌}
use native.Mathlib.Omega.{arith}
use lib.Dec.{ltb, eqb}
use lib.ListN.{length, get_or, set, replicate}
use lib.Seq.{get_or-set_same, get_or-set_other}
use borrow.Author.Tests.{eqb-true, eqb-false, eq-eqb, lt-ltb, le-ltb, ltb-true, ltb-false, le-leb}
use Rattle.rack.specs.declared.Grant.{Grant}
use Rattle.rack.specs.declared.Rack.{Rack}
use Rattle.rack.specs.definitions.Count.{some}
use Rattle.rack.specs.laws.Bools.{tested, both}
use Rattle.seat.specs.declared.SeatRecord.{SeatRecord}
use Rattle.seat.specs.definitions.Grants.{Grants, no_grant, own_grant, no_grants, seat_wrong, granting, faulty, is_pair, slot, named_missing, grants}
use Rattle.seat.specs.definitions.Table.{grant_number, grant_from, number_at, grants_of}
use Rattle.seat.specs.laws.Writing.{sound_pair}
use Rattle.seat.specs.laws.Stored.{grants_same, pair_is, pair_below}

-- a table of zeroes holds no grant
all_0 : (m k : ℕ) → get_or {A = ℕ} (replicate m 0) k 0 ≡ 0
all_0 zero k = refl
all_0 (suc m) zero = refl
all_0 (suc m) (suc k) = all_0 m k

no_number : (seat node : ℕ) → number_at (replicate 1441 0) seat node ≡ 0
unfolding number_at
no_number seat node = tested (is_pair seat node) (λ q. rw q (all_0 1441 (slot seat node))) (λ q. rw q)

pub none_held : grants_of (replicate 1441 0) ≡ no_grants
none_held = grants_same (λ seat node. ap grant_from (no_number seat node)) refl

-- a grant's number holds the grant
grant_back : (g : Grant) → g.mask < 65536 → grant_from (grant_number g) ≡ own_grant g
grant_back g l =
    tested g.named
    (λ q.
    let m : (65536 + g.mask) % 65536 ≡ g.mask = omega arith in
    rw (q, le-leb 65536 (65536 + g.mask) (omega arith), m))
    (λ q. rw q)

-- one number set: its pair's grant is another, and each other stays
module _ (table : List ℕ) (k number : ℕ) (long : length table ≡ 1441) where
  wrong_kept : k < 1440 → (grants_of (set table k number)).wrong ≡ (grants_of table).wrong
  wrong_kept h = rw (get_or-set_other table k 1440 number 0 (λ e. omega arith))

  number_set : (seat node : ℕ) → is_pair seat node ≡ true → slot seat node ≡ k → k < 1440 → number_at (set table k number) seat node ≡ number
  unfolding number_at
  number_set seat node p e h = rw (p, e) (get_or-set_same table k number 0 (omega arith))

  number_kept : (seat node : ℕ) → (is_pair seat node ≡ true → slot seat node ≡ k → ⊥) → number_at (set table k number) seat node ≡ number_at table seat node
  unfolding number_at
  number_kept seat node ne =
      tested (is_pair seat node) (λ q. rw (q, get_or-set_other table k (slot seat node) number 0 (ne q))) (λ q. rw q)

-- refusal 14 is noted
pub noted : (table : List ℕ) {after : List ℕ} → length table ≡ 1441 → after ≡ set table 1440 1 → grants_of after ≡ faulty (grants_of table)
noted table long put =
    rw put
    (grants_same
    (λ seat node. ap grant_from (number_kept table 1440 1 long seat node (λ q e. omega (arith, pair_below seat node q))))
    (rw (get_or-set_same table 1440 1 0 (omega arith))))

-- a seat record without a fault is taken in
module _ (table : List ℕ) (count : ℕ) (r : SeatRecord) (few : count ≤ 96) (sound : seat_wrong count (grants_of table) r ≡ false) where
  pub sound_place : (1 ≤ r.seat) × (r.seat ≤ 15) × (r.node < 96)
  sound_place =
      let s = sound_pair count (grants_of table) r sound in
      (s.1, s.2, omega (arith, s.0))

  own_pair : is_pair r.seat r.node ≡ true
  own_pair = rw (le-leb 1 r.seat sound_place.0, le-leb r.seat 15 sound_place.1, lt-ltb r.node 96 sound_place.2)

  own_place : (seat node : ℕ) → is_pair seat node ≡ true → slot seat node ≡ slot r.seat r.node → (seat ≡ r.seat) × (node ≡ r.node)
  own_place seat node p e =
      let q = pair_is seat node p in
      (omega (arith, q, sound_place), omega (arith, q, sound_place))

  pub taken_in : {after : List ℕ} {at : ℕ} → r.mask < 65536 → length table ≡ 1441 → at ≡ slot r.seat r.node
      → after ≡ set table at (65536 + r.mask) → grants_of after ≡ granting (grants_of table) r
  taken_in fits long place put =
      rw (put, place)
      (grants_same each (wrong_kept table (slot r.seat r.node) (65536 + r.mask) long (pair_below r.seat r.node own_pair)))
    where
      each : (seat node : ℕ) → (grants_of (set table (slot r.seat r.node) (65536 + r.mask))).grant seat node ≡ (granting (grants_of table) r).grant seat node
      each seat node =
          tested (eqb seat r.seat && eqb node r.node)
          (λ q.
          let same = both (eqb seat r.seat) (eqb node r.node) q in
          rw q
          (rw (eqb-true seat r.seat same.0, eqb-true node r.node same.1)
          (ap grant_from (number_set table (slot r.seat r.node) (65536 + r.mask) long r.seat r.node own_pair refl (pair_below r.seat r.node own_pair))
          ∙ grant_back (record { named = true; mask = r.mask }) fits)))
          (λ q.
          rw q
          (ap grant_from (number_kept table (slot r.seat r.node) (65536 + r.mask) long seat node
          (λ p e.
          let o = own_place seat node p e in
          true≢false (sym (rw (eq-eqb seat r.seat o.0, eq-eqb node r.node o.1)) ∙ q)))))

-- the grants of a rack whose place is below k
abbrev pub grants_to : Rack → ℕ → Grants
grants_to rack k =
    record {
      grant = λ seat node. cond (is_pair seat node && ltb (slot seat node) k) (own_grant (get_or rack.grants (slot seat node) no_grant)) no_grant;
      wrong = false;
    }

pub to_none : (rack : Rack) {g : Grants} → g ≡ no_grants → g ≡ grants_to rack 0
to_none rack e = e ∙ grants_same (λ seat node. rw (le-ltb (slot seat node) 0 (omega arith), and-false (is_pair seat node))) refl

pub to_more : (rack : Rack) (table : List ℕ) {after : List ℕ} {k number : ℕ} → grants_of table ≡ grants_to rack k → k < 1440
    → (get_or rack.grants k no_grant).mask < 65536 → number ≡ grant_number (get_or rack.grants k no_grant) → length table ≡ 1441
    → after ≡ set table k number → grants_of after ≡ grants_to rack (k + 1)
to_more rack table {k = k} {number = number} e h fits n long put =
    rw put (grants_same each (wrong_kept table k number long h ∙ ap (λ (g : Grants). g.wrong) e))
  where
    earlier : (seat node : ℕ) → (slot seat node ≡ k → ⊥) → ltb (slot seat node) (k + 1) ≡ ltb (slot seat node) k
    earlier seat node ne =
        tested (ltb (slot seat node) k)
        (λ q. lt-ltb (slot seat node) (k + 1) (omega (arith, ltb-true (slot seat node) k q)) ∙ sym q)
        (λ q. le-ltb (slot seat node) (k + 1) (omega (arith, ltb-false (slot seat node) k q)) ∙ sym q)

    old : (seat node : ℕ) → grant_from (number_at table seat node) ≡ (grants_to rack k).grant seat node
    old seat node = ap (λ (g : Grants). g.grant seat node) e

    each : (seat node : ℕ) → (grants_of (set table k number)).grant seat node ≡ (grants_to rack (k + 1)).grant seat node
    each seat node =
        tested (is_pair seat node)
        (λ p. tested (eqb (slot seat node) k)
        (λ q.
        let s : slot seat node ≡ k = eqb-true (slot seat node) k q in
        ap grant_from (number_set table k number long seat node p s h ∙ n) ∙ grant_back (get_or rack.grants k no_grant) fits
        ∙ rw (p, lt-ltb (slot seat node) (k + 1) (omega arith), s))
        (λ q.
        let ne : slot seat node ≡ k → ⊥ = eqb-false (slot seat node) k q in
        ap grant_from (number_kept table k number long seat node (λ o s. ne s)) ∙ old seat node ∙ rw (earlier seat node ne)))
        (λ p. ap grant_from (number_kept table k number long seat node (λ o s. true≢false (sym o ∙ p))) ∙ old seat node ∙ rw p)

to_each : (rack : Rack) (seat node : ℕ) → (grants_to rack 1440).grant seat node ≡ (grants rack).grant seat node
to_each rack seat node = tested (is_pair seat node) (λ p. rw (p, lt-ltb (slot seat node) 1440 (pair_below seat node p))) (λ p. rw p)

-- all of them, with refusal 14 as it is found
module _ (rack : Rack) {g : Grants} {k : ℕ} {b : Bool} (e : g ≡ grants_to rack k) (l : k ≤ 1440) (h : 1440 ≤ k) (q : b ≡ some (named_missing rack) 1440) where
  all : k ≡ 1440
  all = omega arith

  pub to_sound : b ≡ false → g ≡ grants rack
  to_sound w = e ∙ rw all (grants_same (to_each rack) (sym w ∙ q))

  pub to_faulty : {t : Grants} → b ≡ true → t ≡ faulty g → t ≡ grants rack
  to_faulty w f = f ∙ rw (e, all) (grants_same (to_each rack) (sym w ∙ q))
