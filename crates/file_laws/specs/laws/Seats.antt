-- What 14 means in the rack bytes of a C call, where it does not stop the reading: it is given exactly where one of the seat records is
-- faulty. An accepted file has none.
use Rattle.std.specs.Prelude.{◌≡◌, Bool, false, List, ltb, eqb, length}
use Rattle.std.proofs.Math.Path.{refl, ap}
use Rattle.std.proofs.Common.{sym, ◌∙◌, lit<}
use Rattle.std.proofs.Math.Bool.{true, false≢true}
use Prim.Native.Nat.{ℕ, zero, suc, ◌≤◌, ◌<◌}
use native.Mathlib.Omega.{arith}
use borrow.Author.Tests.{ltb-true, ltb-false, eqb-true, eqb-false}
use Rattle.rack.specs.laws.Bools.{tested}
use Rattle.rack.specs.laws.FirstLaws.{when_not}
use Rattle.rack_laws.specs.laws.First.{list_none_given}
use Rattle.seat.specs.definitions.Grants.{seated}
use Rattle.file_record.specs.declared.Class.TheVariants as class
use Rattle.file_record.specs.definitions.Record.{class_in, is_a}
use Rattle.file_record.specs.definitions.Load.{Reading, at_start, is_faulty, record_faults, record_fault, taken, Loading, loaded, read_in, file_in}
use Rattle.file_record.specs.laws.Turns.{read_all, read_has}
use Rattle.file_record.specs.laws.LoadLaws.{read_long, read_some}
use Rattle.file_laws.specs.definitions.Records.{before, Stands, FaultySeat}
use Rattle.file_laws.specs.laws.Refused.{at_later, faultless}

-- one record more: what was noted stays, and a faulty seat record is noted
module _ (b : List ℕ) (s : Reading) where
  noted_stays : s.grants.wrong ≡ true → (taken b s).grants.wrong ≡ true
  unfolding taken seated
  noted_stays w =
      tested (is_a class.Seat (class_in b s.offset))
      (λ k. tested (is_faulty b s.offset s.tree s.grants) (λ f. rw (k, f)) (λ f. rw (k, f) w)) (λ k. rw k w)

  faulty_noted : is_a class.Seat (class_in b s.offset) ≡ true → is_faulty b s.offset s.tree s.grants ≡ true
      → (taken b s).grants.wrong ≡ true
  unfolding taken seated
  faulty_noted k f = rw (k, f)

  -- nothing else is
  not_noted : s.grants.wrong ≡ false
      → ((is_a class.Seat (class_in b s.offset) ≡ true) × (is_faulty b s.offset s.tree s.grants ≡ true) → ⊥)
      → (taken b s).grants.wrong ≡ false
  unfolding taken seated
  not_noted w n =
      tested (is_a class.Seat (class_in b s.offset))
      (λ k. tested (is_faulty b s.offset s.tree s.grants) (λ f. absurd (n (k, f))) (λ f. rw (k, f) w)) (λ k. rw k w)

module _ (b : List ℕ) where
  later_noted : (k m : ℕ) → k ≤ m → (before b k).grants.wrong ≡ true → (before b m).grants.wrong ≡ true
  unfolding before
  later_noted k zero h w = let e : k ≡ 0 = omega arith in rw e at w
  later_noted k (suc m) h w =
      tested (eqb k (suc m)) (λ q. rw (eqb-true k (suc m) q) at w)
      (λ q. noted_stays b (before b m) (later_noted k m (omega (arith, eqb-false k (suc m) q)) w))

  none_noted : (n : ℕ) → ((k : ℕ) → k < n → FaultySeat b k → ⊥) → (before b n).grants.wrong ≡ false
  unfolding before
  none_noted zero h = refl
  none_noted (suc n) h =
      not_noted b (before b n) (none_noted n (λ k i. h k (omega arith))) (λ f. h n (omega arith) f)

  -- the record at which a reading has come to the end; all before it stand
  pub record Ended (d : Loading) : Type 0 where
    pub count : ℕ
    pub past : length b ≤ (before b count).offset
    pub stood : (j : ℕ) → j < count → Stands b j
    pub told : d ≡ loaded (before b count)

  record Come (s : Reading) : Type 0 where
    place : ℕ
    there : before b place ≡ s
    stood : (j : ℕ) → j < place → Stands b j

  module _ (whole : Bool) (ok : (read_in whole b).refusal ≡ 0) where
    pub ended : Ended (read_in whole b)
    unfolding before
    ended =
        let all = read_all whole b (read_long whole b ok) (read_some whole b ok) in
        rw all
        (read_has whole b Come (λ d. d.refusal ≡ 0 → Ended d)
        (λ s c i z.
        record {
          place = suc c.place;
          there = ap (taken b) c.there;
          stood = λ j h.
              tested (eqb j c.place)
              (λ q. let o = ap (λ (r : Reading). r.offset) c.there in rw (eqb-true j c.place q) (omega (arith, i, o)))
              (λ q. c.stood j (omega (arith, eqb-false j c.place q)));
        })
        (λ s c e q.
        record {
          count = c.place;
          past = omega (arith, e, ap (λ (r : Reading). r.offset) c.there);
          stood = c.stood;
          told = ap loaded (sym c.there);
        })
        (λ s c i z q. absurd (z q)) (length b) at_start (omega arith)
        (record { place = 0; there = refl; stood = λ j h. absurd (omega arith) }) (rw all at ok))

    -- a faulty seat record is noted
    pub is_noted : (k : ℕ) → Stands b k → FaultySeat b k → (read_in whole b).grants.wrong ≡ true
    unfolding before
    is_noted k i f =
        let e = ended in
        rw e.told
        (tested (ltb k e.count)
        (λ q. later_noted (suc k) e.count (ltb-true k e.count q) (faulty_noted b (before b k) f.0 f.1))
        (λ q. absurd (omega (arith, i, e.past, at_later whole b e.count k (ltb-false k e.count q)))))

    -- and nothing is where there is none
    pub none_faulty : ((k : ℕ) → Stands b k → FaultySeat b k → ⊥) → (read_in whole b).grants.wrong ≡ false
    none_faulty h = let e = ended in rw e.told (none_noted e.count (λ k i. h k (e.stood k i)))

  -- in an accepted file no seat record is faulty
  pub file_right : (file_in b).refusal ≡ 0 → (file_in b).grants.wrong ≡ false
  unfolding record_fault
  file_right ok =
      none_faulty true ok
      (λ k i f.
      let s = before b k in
      let none = rw f.0 at (list_none_given (record_faults true b s) (faultless true b ok k i) 3 (lit< tt)) in
      false≢true (sym (when_not 14 (is_faulty b s.offset s.tree s.grants) (λ z. omega (arith, z)) none) ∙ f.1))
