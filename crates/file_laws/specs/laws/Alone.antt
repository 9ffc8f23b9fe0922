-- The bytes of an accepted file before its first register record or event are rack bytes as a C call takes them: they are accepted, and have
-- the tree and the grants of the file.
use Rattle.std.specs.Prelude.{◌≡◌, true, ◌&&◌, List, ltb, eqb, length, take}
use Rattle.std.proofs.Math.Path.{refl, ap}
use Rattle.std.proofs.Common.{sym, ◌∙◌, true≢false, length-take-le}
use Rattle.std.proofs.Math.Bool.{false, not}
use Rattle.std.proofs.lemmas.Bool.{false≢true}
use Prim.Native.Nat.{ℕ, zero, suc, ◌≤◌, ◌<◌}
use native.Mathlib.Omega.{arith}
use borrow.Author.Tests.{ltb-true, ltb-false, eqb-true, eqb-false, eq-eqb, ne_eqb, not-false}
use Rattle.rack.specs.definitions.First.{◌or◌}
use Rattle.rack.specs.laws.Bools.{tested, both, neither}
use Rattle.rack.specs.laws.FirstLaws.{or_none}
use Rattle.file_record.specs.declared.Class.{Class}
use Rattle.file_record.specs.declared.Class.TheVariants as class
use Rattle.file_record.specs.definitions.Record.{class_in, is_a, is_rack, is_known}
use Rattle.file_record.specs.definitions.Load.{Reading, record_fault, taken, Loading, file_in, rack_alone}
use Rattle.file_record.specs.laws.Steps.{is_a_lem, shape_known}
use Rattle.file_record.specs.laws.LoadLaws.{first_host, file_begun, file_long, read_some}
use Rattle.file_laws.specs.definitions.Records.{before, Stands, fault_at}
use Rattle.file_laws.specs.laws.Refused.{at_later, accepts, faultless}
use Rattle.file_laws.specs.laws.Seats.{ended}
use Rattle.file_laws.specs.laws.Shape.{shape, in_place}
use Rattle.file_laws.specs.laws.Front.{by_rack, taken_same, front_right}

-- no register record and no event stands in front
abbrev Clear : Reading → Type 0
Clear s = (s.registers ≡ 0) × (s.events ≡ 0)

-- where the first of them begins, or else the next record
abbrev front : Reading → ℕ
front s = s.registers or s.events or s.offset

clear_front : (s : Reading) → Clear s → front s ≡ s.offset
clear_front s c = rw (eq-eqb s.registers 0 c.0, eq-eqb s.events 0 c.1)

-- what is known and no rack record is a register record or an event
by_later : {P : Type 0} (c : Class) → is_known true c ≡ true → is_rack c ≡ false → (c ≡ class.Registers → P) → (c ≡ class.Event → P) → P
by_later class.Unknown k n r e = absurd (false≢true k)
by_later class.Host k n r e = absurd (true≢false n)
by_later class.Node k n r e = absurd (true≢false n)
by_later class.Seat k n r e = absurd (true≢false n)
by_later class.Registers k n r e = r refl
by_later class.Event k n r e = e refl

-- a record without a fault
module _ (b : List ℕ) (s : Reading) (z : record_fault true b s ≡ 0) where
  abbrev kind : Class
  kind = class_in b s.offset

  -- a rack record follows none of the others
  rack_clear : is_rack kind ≡ true → Clear s
  rack_clear r =
      let w = (neither (not (eqb s.registers 0 && eqb s.events 0)) (is_a class.Registers kind && not (eqb s.events 0)) (rw r at (in_place b s z))).0 in
      let v = both (eqb s.registers 0) (eqb s.events 0) (not-false _ w) in
      (eqb-true s.registers 0 v.0, eqb-true s.events 0 v.1)

  rack_stays : is_rack kind ≡ true → Clear (taken b s)
  unfolding taken
  rack_stays r =
      let c = rack_clear r in
      by_rack kind r (λ k. rw k c) (λ k. rw k c) (λ k. rw k c)

  -- the others leave rack and grants, and the place at which they began
  module _ (n : is_rack kind ≡ false) where
    begun : s.offset ≡ 0 → ⊥
    begun e = true≢false (sym (ap is_rack (is_a_lem class.Host kind (first_host true b s z e))) ∙ n)

    later : {P : Type 0} → (kind ≡ class.Registers → P) → (kind ≡ class.Event → P) → P
    later = by_later kind (shape_known true b kind s.offset s.registers s.events (shape b s z)) n

    tree_stays : (taken b s).tree ≡ s.tree
    unfolding taken
    tree_stays = later (λ k. rw k) (λ k. rw k)

    grants_stay : (taken b s).grants ≡ s.grants
    unfolding taken
    grants_stay = later (λ k. rw k) (λ k. rw k)

    not_clear : Clear (taken b s) → ⊥
    unfolding taken
    not_clear c =
        later (λ k. begun (or_none s.registers s.offset (rw k at c.0)).1)
        (λ k. begun (or_none s.events s.offset (rw k at c.1)).1)

    front_stays : front (taken b s) ≡ front s
    unfolding taken
    front_stays =
        tested (eqb s.registers 0)
        (λ r.
        later
        (λ k.
        let e : not (eqb s.events 0) ≡ false = rw k at (in_place b s z) in
        rw (k, r, not-false (eqb s.events 0) e, ne_eqb s.offset 0 begun))
        (λ k. tested (eqb s.events 0) (λ e. rw (k, r, e, ne_eqb s.offset 0 begun)) (λ e. rw (k, r, e, e))))
        (λ r. later (λ k. rw (k, r, r)) (λ k. rw (k, r)))

module _ (b : List ℕ) where
  -- the record at which the rack records end that stand in front of record k
  record Ends (k : ℕ) : Type 0 where
    place : ℕ
    clear : Clear (before b place)
    begins : front (before b k) ≡ (before b place).offset
    tree : (before b k).tree ≡ (before b place).tree
    grants : (before b k).grants ≡ (before b place).grants
    earlier : place ≤ k

  abbrev Clean : ℕ → Type 0
  Clean k = (j : ℕ) → j < k → record_fault true b (before b j) ≡ 0

  ends : (k : ℕ) → Clean k → Ends k
  unfolding before
  ends zero h = record { place = 0; clear = (refl, refl); begins = refl; tree = refl; grants = refl; earlier = omega arith }
  ends (suc k) h =
      let s = before b k in
      let z = h k (omega arith) in
      tested (is_rack (class_in b s.offset))
      (λ r.
      let c = rack_stays b s z r in
      record { place = suc k; clear = c; begins = clear_front (taken b s) c; tree = refl; grants = refl; earlier = omega arith })
      (λ r.
      let e = ends k (λ j l. h j (omega arith)) in
      record {
        place = e.place;
        clear = e.clear;
        begins = front_stays b s z r ∙ e.begins;
        tree = tree_stays b s z r ∙ e.tree;
        grants = grants_stay b s z r ∙ e.grants;
        earlier = omega (arith, e.earlier);
      })

  -- all before it are rack records, with none of the others in front
  last_rack : (k : ℕ) → record_fault true b (before b k) ≡ 0 → Clear (before b (suc k)) → is_rack (class_in b (before b k).offset) ≡ true
  unfolding before
  last_rack k z c =
      tested (is_rack (class_in b (before b k).offset)) (λ r. r) (λ r. absurd (not_clear b (before b k) z r c))

  all_clear : (m : ℕ) → Clean m → Clear (before b m) → (k : ℕ) → k ≤ m → Clear (before b k)
  all_clear zero h c k l = let e : k ≡ 0 = omega arith in rw e c
  all_clear (suc m) h c k l =
      let z = h m (omega arith) in
      tested (eqb k (suc m)) (λ q. rw (eqb-true k (suc m) q) c)
      (λ q.
      all_clear m (λ j i. h j (omega arith)) (rack_clear b (before b m) z (last_rack m z c)) k (omega (arith, eqb-false k (suc m) q)))

  -- the rack records that end at record p, alone
  module _ (p : ℕ) (clean : Clean p) (clear : Clear (before b p)) (inside : (before b p).offset ≤ length b) where
    abbrev alone : List ℕ
    alone = take (before b p).offset b

    abbrev clear_at : (k : ℕ) → k ≤ p → Clear (before b k)
    clear_at = all_clear p clean clear

    rack_at : (k : ℕ) → k < p → is_rack (class_in b (before b k).offset) ≡ true
    rack_at k l = last_rack k (clean k l) (clear_at (suc k) l)

    fits : (k : ℕ) → k < p → (before b (suc k)).offset ≤ (before b p).offset
    fits k l = omega (arith, at_later true b (suc k) p l)

    before_same : (k : ℕ) → k ≤ p → before alone k ≡ before b k
    unfolding before taken
    before_same zero l = refl
    before_same (suc k) l =
        ap (taken alone) (before_same k (omega arith))
        ∙ taken_same b (before b p).offset inside (before b k) (fits k l) (rack_at k l)

    right_at : (k : ℕ) → k < p → fault_at false alone k ≡ 0
    unfolding before taken
    right_at k l =
        let c = clear_at k (omega arith) in
        ap (record_fault false alone) (before_same k (omega arith))
        ∙ front_right b (before b p).offset inside (before b k) (fits k l) (rack_at k l) (clean k l) c.0 c.1

    long : length alone ≡ (before b p).offset
    long = length-take-le (before b p).offset b inside

    end_is : (before alone p).offset ≡ length alone
    end_is = ap (λ (s : Reading). s.offset) (before_same p (omega arith)) ∙ sym long

    stands_below : (k : ℕ) → Stands alone k → k < p
    stands_below k i =
        tested (ltb k p) (λ q. ltb-true k p q)
        (λ q. absurd (omega (arith, i, end_is, at_later false alone p k (ltb-false k p q))))

    module _ (few : (before b p).offset ≤ 65536) (some : (before b p).offset ≡ 0 → ⊥) where
      alone_accepted : (rack_alone alone).refusal ≡ 0
      alone_accepted = accepts false alone (omega (arith, few, long)) (λ e. some (sym long ∙ e)) (λ k i. right_at k (stands_below k i))

      count_is : (ended alone false alone_accepted).count ≡ p
      count_is =
          let e = ended alone false alone_accepted in
          tested (ltb e.count p)
          (λ q.
          let l = ltb-true e.count p q in
          absurd (omega (arith, l, e.past, end_is, at_later false alone e.count p (omega arith))))
          (λ q.
          tested (ltb p e.count) (λ r. absurd (omega (arith, e.stood p (ltb-true p e.count r), end_is)))
          (λ r. omega (arith, ltb-false e.count p q, ltb-false p e.count r)))

      read_is : before alone (ended alone false alone_accepted).count ≡ before b p
      read_is = ap (before alone) count_is ∙ before_same p (omega arith)

      alone_tree : (rack_alone alone).tree ≡ (before b p).tree
      alone_tree =
          ap (λ (d : Loading). d.tree) (ended alone false alone_accepted).told ∙ ap (λ (s : Reading). s.tree) read_is

      alone_grants : (rack_alone alone).grants ≡ (before b p).grants
      alone_grants =
          ap (λ (d : Loading). d.grants) (ended alone false alone_accepted).told ∙ ap (λ (s : Reading). s.grants) read_is

-- of an accepted file
module _ (b : List ℕ) (ok : (file_in b).refusal ≡ 0) where
  abbrev last : ℕ
  last = (ended b true ok).count

  rack_ends : Ends b last
  rack_ends = ends b last (λ j l. faultless true b ok j ((ended b true ok).stood j l))

  place_is : (file_in b).registers ≡ (before b rack_ends.place).offset
  place_is = ap (λ (d : Loading). d.registers) (ended b true ok).told ∙ rack_ends.begins

  -- the three parts of what is read of its rack records
  pub record Alone (d : Loading) : Type 0 where
    pub accepted : d.refusal ≡ 0
    pub tree : d.tree ≡ (file_in b).tree
    pub grants : d.grants ≡ (file_in b).grants

  pub file_rack : Alone (rack_alone (take (file_in b).registers b))
  file_rack =
      let e = ended b true ok in
      let r = rack_ends in
      let i : (before b r.place).offset ≤ length b = omega (arith, place_is, (file_begun b ok).0) in
      let few : (before b r.place).offset ≤ 65536 = omega (arith, i, file_long b ok) in
      let clean : Clean b r.place = λ j l. faultless true b ok j (e.stood j (omega (arith, l, r.earlier))) in
      rw place_is
      (record {
        accepted = alone_accepted b r.place clean r.clear i few some;
        tree =
            alone_tree b r.place clean r.clear i few some ∙ sym (ap (λ (d : Loading). d.tree) e.told ∙ r.tree);
        grants =
            alone_grants b r.place clean r.clear i few some ∙ sym (ap (λ (d : Loading). d.grants) e.told ∙ r.grants);
      })
    where
      some : (before b rack_ends.place).offset ≡ 0 → ⊥
      some z =
          let s = before b last in
          let n = (or_none s.registers (s.events or s.offset) (rack_ends.begins ∙ z)).1 in
          let o = (or_none s.events s.offset n).1 in
          read_some true b ok (omega (arith, o, (ended b true ok).past))
