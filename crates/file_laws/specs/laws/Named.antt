-- The pairs of a seat and a node that are named: exactly those of the seat records without a fault, each with its record's mask. So 15 is
-- given exactly where none of them is of that seat.
use Rattle.std.specs.Prelude.{◌≡◌, refl, Bool, true, ◌&&◌, List, ◌⊎◌, ltb, length}
use Rattle.std.proofs.Math.Path.{sym, ap, subst}
use Rattle.std.proofs.Common.{◌∙◌, true≢false}
use Rattle.std.proofs.Math.Bool.{false}
use Rattle.std.proofs.lemmas.Bool.{false≢true}
use Rattle.std.proofs.Math.Logic.{inl, inr, ⊎_elim}
use Prim.Native.Nat.{ℕ, zero, suc, ◌+◌, ◌<◌}
use native.Mathlib.Omega.{arith}
use Rattle.std.proofs.Math.Dec.{eqb}
use Rattle.std.proofs.Math.ListN.{get_or-eq_default}
use borrow.Author.Tests.{ltb-true, ltb-false, eqb-true, eqb-false, eq-eqb, ne_eqb}
use Rattle.rack.specs.declared.Grant.{Grant}
use Rattle.rack.specs.definitions.Count.{some}
use Rattle.rack.specs.definitions.Grow.{no_memory}
use Rattle.rack.specs.definitions.Refusal.{rack_refusal}
use Rattle.rack.specs.laws.Bools.{tested, both, neither, opposite}
use Rattle.rack.specs.laws.Search.{none, none_all}
use Rattle.rack_laws.specs.laws.Grown.{none_accepted}
use Rattle.rack_laws.specs.laws.Sound.{nodes_le}
use Rattle.seat.specs.declared.SeatRecord.{SeatRecord}
use Rattle.seat.specs.definitions.Grants.{Grants, unknown_seat, seat_wrong, seated}
use Rattle.seat.specs.laws.Writing.{unknown_zero, sound_pair}
use Rattle.file_record.specs.declared.Class.TheVariants as class
use Rattle.file_record.specs.definitions.Number.{byte_in}
use Rattle.file_record.specs.definitions.Record.{form_of, class_in, is_a, seat_in}
use Rattle.file_record.specs.definitions.Events.{event_in, seat_after, event_unknown}
use Rattle.file_record.specs.definitions.Load.{Reading, is_faulty, taken, Loading, read_in}
use Rattle.file_record.specs.laws.LoadLaws.{taken_accepted}
use Rattle.file_laws.specs.definitions.Records.{before, Stands, fault_at, SoundSeat, WithoutRecord}
use Rattle.file_laws.specs.laws.Refused.{at_later, faultless}
use Rattle.file_laws.specs.laws.Seats.{ended}

-- a seat record taken in
module _ (count : ℕ) (g : Grants) (r : SeatRecord) (seat node : ℕ) where
  -- a pair that is named was named before, or is the record's
  seated_from : ((seated count g r).grant seat node).named ≡ true
      → (g.grant seat node ≡ (seated count g r).grant seat node)
      ⊎ ((seat_wrong count g r ≡ false) × (r ≡ record { seat = seat; node = node; mask = ((seated count g r).grant seat node).mask }))
  unfolding seated
  seated_from e =
      tested (seat_wrong count g r) (λ w. inl (rw w))
      (λ w.
      tested (eqb seat r.seat && eqb node r.node)
      (λ q.
      let own = both (eqb seat r.seat) (eqb node r.node) q in
      inr (w, rw (w, q, eqb-true seat r.seat own.0, eqb-true node r.node own.1)))
      (λ q. inl (rw (w, q))))

  -- one that was named stays as it was
  seated_stays : (g.grant seat node).named ≡ true → (seated count g r).grant seat node ≡ g.grant seat node
  unfolding seated
  seated_stays e =
      tested (seat_wrong count g r) (λ w. rw w)
      (λ w.
      tested (eqb seat r.seat && eqb node r.node)
      (λ q.
      let own = both (eqb seat r.seat) (eqb node r.node) q in
      let n : (g.grant seat node).named ≡ false =
      rw (eqb-true seat r.seat own.0, eqb-true node r.node own.1) (sound_pair count g r w).3 in
      absurd (true≢false (sym e ∙ n)))
      (λ q. rw (w, q)))

  -- and the record's own is named with its mask
  seated_own : {mask : ℕ} → seat_wrong count g r ≡ false → r ≡ record { seat = seat; node = node; mask = mask }
      → (seated count g r).grant seat node ≡ record { named = true; mask = mask }
  unfolding seated
  seated_own w e =
      let s : seat ≡ r.seat = sym (ap (λ (x : SeatRecord). x.seat) e) in
      let n : node ≡ r.node = sym (ap (λ (x : SeatRecord). x.node) e) in
      rw (w, eq-eqb seat r.seat s, eq-eqb node r.node n, ap (λ (x : SeatRecord). x.mask) e)

-- a record taken in
module _ (b : List ℕ) (s : Reading) (seat node : ℕ) where
  abbrev is_seat : Bool
  is_seat = is_a class.Seat (class_in b s.offset)

  abbrev record_at : SeatRecord
  record_at = seat_in b s.offset

  taken_from : ((taken b s).grants.grant seat node).named ≡ true
      → (s.grants.grant seat node ≡ (taken b s).grants.grant seat node)
      ⊎ ((is_seat ≡ true) × (is_faulty b s.offset s.tree s.grants ≡ false)
      × (record_at ≡ record { seat = seat; node = node; mask = ((taken b s).grants.grant seat node).mask }))
  unfolding taken
  taken_from e =
      tested is_seat
      (λ k.
      ⊎_elim (λ p. inl (rw k p)) (λ p. inr (k, p.0, rw k p.1))
      (seated_from s.tree.count s.grants record_at seat node (rw k at e)))
      (λ k. inl (rw k))

  taken_stays : (s.grants.grant seat node).named ≡ true → (taken b s).grants.grant seat node ≡ s.grants.grant seat node
  unfolding taken
  taken_stays e =
      tested is_seat (λ k. rw k (seated_stays s.tree.count s.grants record_at seat node e)) (λ k. rw k)

  taken_own : {mask : ℕ} → is_seat ≡ true → is_faulty b s.offset s.tree s.grants ≡ false
      → record_at ≡ record { seat = seat; node = node; mask = mask }
      → (taken b s).grants.grant seat node ≡ record { named = true; mask = mask }
  unfolding taken
  taken_own k w e = rw k (seated_own s.tree.count s.grants record_at seat node w e)

module _ (b : List ℕ) where
  -- a pair that is named in front of record n is named by a record before it
  pub named_by : (n seat node : ℕ) → ((before b n).grants.grant seat node).named ≡ true
      → (k : ℕ) × (k < n) × SoundSeat b k seat node ((before b n).grants.grant seat node).mask
  unfolding before
  named_by zero seat node e = absurd (false≢true e)
  named_by (suc n) seat node e =
      ⊎_elim
      (λ p.
      let r = named_by n seat node (ap (λ (g : Grant). g.named) p ∙ e) in
      (r.0, omega (arith, r.1), subst (SoundSeat b r.0 seat node) (ap (λ (g : Grant). g.mask) p) r.2))
      (λ p. (n, omega arith, record { is_seat_lem = p.0; sound = p.1; says = p.2 }))
      (taken_from b (before b n) seat node e)

  -- and a record names its pair in front of all that are after it
  pub names : (n k seat node mask : ℕ) → k < n → SoundSeat b k seat node mask
      → (before b n).grants.grant seat node ≡ record { named = true; mask = mask }
  unfolding before
  names zero k seat node mask l r = absurd (omega arith)
  names (suc n) k seat node mask l r =
      tested (eqb k n)
      (λ q. let e = eqb-true k n q in taken_own b (before b n) seat node (rw e at r.is_seat_lem) (rw e at r.sound) (rw e at r.says))
      (λ q.
      let p = names n k seat node mask (omega (arith, eqb-false k n q)) r in
      taken_stays b (before b n) seat node (ap (λ (g : Grant). g.named) p) ∙ p)

-- 15 of grants: no node of 96 is named with the seat
module _ (g : Grants) (seat : ℕ) where
  pub unknown_unnamed : unknown_seat g seat ≡ true → (seat ≡ 0 → ⊥) × ((node : ℕ) → node < 96 → (g.grant seat node).named ≡ false)
  unfolding unknown_seat
  unknown_unnamed e =
      let n = neither (eqb seat 0) (some (λ node. (g.grant seat node).named) 96) (opposite _ e) in
      (eqb-false seat 0 n.0, none (λ node. (g.grant seat node).named) 96 n.1)

  pub unnamed_unknown : (seat ≡ 0 → ⊥) → ((node : ℕ) → node < 96 → (g.grant seat node).named ≡ false) → unknown_seat g seat ≡ true
  unfolding unknown_seat
  unnamed_unknown ne h = rw (ne_eqb seat 0 ne, none_all (λ node. (g.grant seat node).named) 96 h)

module _ (whole : Bool) (b : List ℕ) where
  -- the rack in front of a record is accepted where no record before it has a fault
  accepted_before : (n : ℕ) → ((j : ℕ) → j < n → fault_at whole b j ≡ 0) → rack_refusal (before b n).tree ≡ 0
  unfolding before
  accepted_before zero h = none_accepted no_memory
  accepted_before (suc n) h = taken_accepted whole b (before b n) (accepted_before n (λ j l. h j (omega arith))) (h n (omega arith))

  module _ (n : ℕ) (clean : (j : ℕ) → j < n → fault_at whole b j ≡ 0) where
    -- so a node that a seat record names is one of 96
    node_below : (k seat node mask : ℕ) → k < n → SoundSeat b k seat node mask → node < 96
    node_below k seat node mask l r =
        let s = before b k in
        let p = (sound_pair s.tree.count s.grants (seat_in b s.offset) r.sound).0 in
        let e : (seat_in b s.offset).node ≡ node = ap (λ (x : SeatRecord). x.node) r.says in
        omega (arith, p, e, nodes_le s.tree (accepted_before k (λ j i. clean j (omega arith))))

    -- and a seat is unknown there exactly where none of them names it
    pub unknown_before : (seat : ℕ) → unknown_seat (before b n).grants seat ≡ true → WithoutRecord b n seat
    unknown_before seat e =
        let u = unknown_unnamed (before b n).grants seat e in
        record {
          other = u.0;
          none = λ k node mask l r.
              true≢false
              (sym (ap (λ (g : Grant). g.named) (names b n k seat node mask l r)) ∙ u.1 node (node_below k seat node mask l r));
        }

  pub before_unknown : (n seat : ℕ) → WithoutRecord b n seat → unknown_seat (before b n).grants seat ≡ true
  before_unknown n seat w =
      unnamed_unknown (before b n).grants seat w.other
      (λ node l.
      tested ((before b n).grants.grant seat node).named
      (λ q. let r = named_by b n seat node q in absurd (w.none r.0 node _ r.1 r.2)) (λ q. q))

-- past the end there is no seat record
pub seat_stands : (b : List ℕ) (k : ℕ) → is_a class.Seat (class_in b (before b k).offset) ≡ true → Stands b k
unfolding form_of
seat_stands b k e =
    tested (ltb (before b k).offset (length b)) (λ q. ltb-true (before b k).offset (length b) q)
    (λ q.
    let z : byte_in b (before b k).offset ≡ 0 = get_or-eq_default b 0 (ltb-false (before b k).offset (length b) q) in
    absurd (false≢true (sym (ap (λ (n : ℕ). is_a class.Seat (form_of n).class) z) ∙ e)))

-- of accepted bytes
module _ (whole : Bool) (b : List ℕ) (ok : (read_in whole b).refusal ≡ 0) where
  -- what is read is what is known in front of the record past the last
  grants_told : (read_in whole b).grants ≡ (before b (ended b whole ok).count).grants
  grants_told = ap (λ (d : Loading). d.grants) (ended b whole ok).told

  counted : (k : ℕ) → Stands b k → k < (ended b whole ok).count
  counted k i =
      let e = ended b whole ok in
      tested (ltb k e.count) (λ q. ltb-true k e.count q)
      (λ q. absurd (omega (arith, i, e.past, at_later whole b e.count k (ltb-false k e.count q))))

  -- a pair is named exactly where a seat record without a fault names it
  pub read_named : (seat node : ℕ) → ((read_in whole b).grants.grant seat node).named ≡ true
      → (k : ℕ) × Stands b k × SoundSeat b k seat node ((read_in whole b).grants.grant seat node).mask
  read_named seat node q =
      let e = ended b whole ok in
      rw grants_told
      (let r = named_by b e.count seat node (rw grants_told at q) in
      (r.0, e.stood r.0 r.1, r.2))

  pub read_names : (k seat node mask : ℕ) → SoundSeat b k seat node mask
      → (read_in whole b).grants.grant seat node ≡ record { named = true; mask = mask }
  read_names k seat node mask r =
      rw grants_told (names b (ended b whole ok).count k seat node mask (counted k (seat_stands b k r.is_seat_lem)) r)

  -- and a seat is unknown exactly where none names it
  pub read_unknown : (seat : ℕ) → unknown_seat (read_in whole b).grants seat ≡ true → WithoutRecord b (length b) seat
  read_unknown seat q =
      let e = ended b whole ok in
      let w =
      unknown_before whole b e.count (λ j l. faultless whole b ok j (e.stood j l)) seat (rw grants_told at q) in
      record {
        other = w.other;
        none = λ k node mask l r. w.none k node mask (counted k (seat_stands b k r.is_seat_lem)) r;
      }

  pub unknown_read : (seat : ℕ) → WithoutRecord b (length b) seat → unknown_seat (read_in whole b).grants seat ≡ true
  unknown_read seat w =
      let e = ended b whole ok in
      rw grants_told
      (before_unknown whole b e.count seat
      (record {
        other = w.other;
        none = λ k node mask l r.
            w.none k node mask (omega (arith, e.stood k l, at_later whole b 0 k (omega arith))) r;
      }))

-- the seat that an event names, 0 where it is no seat event
module _ (b : List ℕ) (o : ℕ) where
  seat_event : byte_in b o ≡ 10 → seat_after 0 (event_in b o) ≡ byte_in b (o + 1)
  unfolding event_in seat_after
  seat_event e = rw e

  other_event : (byte_in b o ≡ 10 → ⊥) → seat_after 0 (event_in b o) ≡ 0
  unfolding event_in seat_after
  other_event n =
      tested (eqb (byte_in b o) 4) (λ q. rw q)
      (λ q.
      tested (eqb (byte_in b o) 5) (λ r. rw (q, r))
      (λ r.
      tested (eqb (byte_in b o) 6) (λ s. rw (q, r, s))
      (λ s. tested (eqb (byte_in b o) 7) (λ t. rw (q, r, s, t)) (λ t. rw (q, r, s, t, ne_eqb (byte_in b o) 10 n)))))

-- 15 of an event, record n of the bytes
module _ (whole : Bool) (b : List ℕ) (n : ℕ) where
  abbrev at : ℕ
  at = (before b n).offset

  pub event_unknown_lem : ((j : ℕ) → j < n → fault_at whole b j ≡ 0) → event_unknown (before b n).grants (event_in b at) ≡ true
      → (byte_in b at ≡ 10) × WithoutRecord b n (byte_in b (at + 1))
  event_unknown_lem clean u =
      tested (eqb (byte_in b at) 10)
      (λ q.
      let e = eqb-true (byte_in b at) 10 q in
      (e, unknown_before whole b n clean (byte_in b (at + 1)) (rw (seat_event b at e) at u)))
      (λ q.
      let z : unknown_seat (before b n).grants 0 ≡ true = rw (other_event b at (eqb-false (byte_in b at) 10 q)) at u in
      absurd (false≢true (sym (unknown_zero (before b n).grants 0 refl) ∙ z)))

  pub unknown_event : byte_in b at ≡ 10 → WithoutRecord b n (byte_in b (at + 1))
      → event_unknown (before b n).grants (event_in b at) ≡ true
  unknown_event e w = rw (seat_event b at e) (before_unknown whole b n (byte_in b (at + 1)) w)
