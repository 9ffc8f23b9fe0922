-- The refusal of a file: number n is given, with the record's offset, exactly where it is the first that applies at the first faulty
-- record; a file is accepted exactly where none applies at any record. The rack bytes of a call likewise, an event kind there being 2 and a
-- faulty seat record none.
use Rattle.std.specs.Prelude.{◌≡◌, refl, Bool, true, false, ◌&&◌, List, [], ◌∷◌, ltb, eqb, length}
use Rattle.std.proofs.Common.{sym, ◌∙◌}
use Rattle.std.proofs.Math.Path.{ap}
use Prim.Native.Nat.{ℕ, zero, suc, ◌+◌, ◌-◌, ◌≤◌, ◌<◌}
use native.Mathlib.Omega.{arith}
use borrow.Author.Tests.{ltb-true, ltb-false, eqb-true, eqb-false}
use Rattle.rack.specs.laws.Bools.{tested}
use Rattle.rack.specs.definitions.First.{◌when◌, first}
use Rattle.rack.specs.definitions.Grow.{nodes_with}
use Rattle.rack.specs.definitions.Refusal.{node_faults, node_refusal}
use Rattle.rack_laws.specs.laws.First.{same_place, same_number}
use Rattle.file_record.specs.declared.Class.TheVariants as class
use Rattle.file_record.specs.definitions.Record.{class_in, is_a, node_in}
use Rattle.file_record.specs.definitions.Load.{Reading, at_start, shape_faults, shape_fault, node_fault, record_faults, record_fault, taken, Loading, read_in}
use Rattle.file_record.specs.laws.Turns.{taken_later, read_empty, read_all, read_has}
use Rattle.file_record.specs.laws.LoadLaws.{read_long, read_some}
use Rattle.file_laws.specs.definitions.Records.{before, fault_at, FirstFaulty, Faultless}

module _ (whole : Bool) (b : List ℕ) where
  -- a later record begins later
  pub at_later : (k m : ℕ) → k ≤ m → (before b k).offset + (m - k) ≤ (before b m).offset
  unfolding before
  at_later k zero h = let e : k ≡ 0 = omega arith in rw e (omega arith)
  at_later k (suc m) h =
      tested (eqb k (suc m)) (λ q. rw (eqb-true k (suc m) q) (omega arith))
      (λ q. omega (arith, at_later k m (omega (arith, eqb-false k (suc m) q)), taken_later whole b (before b m)))

  -- a reading has come to record k, and no record before it has a fault
  record Come (s : Reading) : Type 0 where
    at : ℕ
    there : before b at ≡ s
    clean : (j : ℕ) → j < at → fault_at whole b j ≡ 0

  -- it stops at the first faulty record, or ends without one
  record Went (d : Loading) : Type 0 where
    stopped : (d.refusal ≡ 0 → ⊥) → FirstFaulty whole b d.refusal d.offset
    ended : d.refusal ≡ 0 → Faultless whole b

  come_on : (s : Reading) → Come s → s.offset < length b → record_fault whole b s ≡ 0 → Come (taken b s)
  unfolding before
  come_on s c i z =
      record {
        at = suc c.at;
        there = ap (taken b) c.there;
        clean = λ j h.
            tested (eqb j c.at) (λ q. ap (fault_at whole b) (eqb-true j c.at q) ∙ ap (record_fault whole b) c.there ∙ z)
            (λ q. c.clean j (omega (arith, eqb-false j c.at q)));
      }

  start : Come at_start
  unfolding before
  start = record { at = 0; there = refl; clean = λ j h. absurd (omega arith) }

  found : (s : Reading) → Come s → s.offset < length b → (record_fault whole b s ≡ 0 → ⊥)
      → FirstFaulty whole b (record_fault whole b s) s.offset
  found s c i z =
      let o = ap (λ (r : Reading). r.offset) c.there in
      record {
        first =
            record {
              place = c.at;
              inside = omega (arith, i, o, at_later 0 c.at (omega arith));
              earlier = c.clean;
              here = ap (record_fault whole b) c.there;
              applies = z;
            };
        stands = omega (arith, i, o);
        offset = o;
      }

  none_left : (s : Reading) → Come s → length b ≤ s.offset → Faultless whole b
  none_left s c e k i =
      tested (ltb k c.at) (λ q. c.clean k (ltb-true k c.at q))
      (λ q. absurd (omega (arith, i, e, at_later c.at k (ltb-false k c.at q), ap (λ (r : Reading). r.offset) c.there)))

  -- the numbers of 1 to 65,536 bytes
  module _ (long : length b ≤ 65536) (some : length b ≡ 0 → ⊥) where
    went : Went (read_in whole b)
    went =
        rw (read_all whole b long some)
        (read_has whole b Come Went come_on
        (λ s c e. record { stopped = λ z. absurd (z refl); ended = λ z. none_left s c e })
        (λ s c i z. record { stopped = λ w. found s c i z; ended = λ w. absurd (z w) })
        (length b) at_start (omega arith) start)

    pub given : ((read_in whole b).refusal ≡ 0 → ⊥) → FirstFaulty whole b (read_in whole b).refusal (read_in whole b).offset
    given z = went.stopped z

    -- and the converse of both
    pub accepts : Faultless whole b → (read_in whole b).refusal ≡ 0
    accepts f =
        tested (eqb (read_in whole b).refusal 0) (λ q. eqb-true (read_in whole b).refusal 0 q)
        (λ q.
        let g = given (eqb-false (read_in whole b).refusal 0 q) in
        absurd (g.first.applies (sym g.first.here ∙ f g.first.place g.stands)))

    pub gives : (n o : ℕ) → FirstFaulty whole b n o → ((read_in whole b).refusal ≡ n) × ((read_in whole b).offset ≡ o)
    gives n o f =
        tested (eqb (read_in whole b).refusal 0)
        (λ q.
        absurd (f.first.applies (sym f.first.here ∙ went.ended (eqb-true (read_in whole b).refusal 0 q) f.first.place f.stands)))
        (λ q.
        let g = given (eqb-false (read_in whole b).refusal 0 q) in
        let here = same_place g.first f.first in
        (same_number g.first f.first, sym g.offset ∙ ap (λ k. (before b k).offset) here ∙ f.offset))

  -- accepted bytes are 1 to 65,536 (file_record `LoadLaws.read-long`, `read_some`), and no record of theirs has a fault
  pub faultless : (read_in whole b).refusal ≡ 0 → Faultless whole b
  faultless z = (went (read_long whole b z) (read_some whole b z)).ended z

-- 1 is no record's number
abbrev not_1 : ℕ → Type 0
not_1 n = eqb n 1 ≡ false

abbrev each_not_1 : List ℕ → Type 0
each_not_1 [] = Unit {0}
each_not_1 (n ∷ ns) = not_1 n × each_not_1 ns

first_1 : (ns : List ℕ) → each_not_1 ns → not_1 (first ns)
unfolding first
first_1 [] w = refl
first_1 (n ∷ ns) w = tested (eqb n 0) (λ q. rw q (first_1 ns w.1)) (λ q. rw q w.0)

when_1 : (n : ℕ) (x : Bool) → not_1 n → not_1 (n when x)
when_1 n true h = h
when_1 n false h = refl

record_1 : (whole : Bool) (b : List ℕ) (s : Reading) → not_1 (record_fault whole b s)
unfolding record_fault shape_fault node_fault node_refusal
record_1 whole b s =
    first_1 (record_faults whole b s) (
      first_1 (shape_faults whole b (class_in b s.offset) s.offset s.registers s.events) (search when_1),
      (
        when_1 _ (is_a class.Node (class_in b s.offset))
            (first_1 (node_faults (nodes_with s.tree (node_in b s.offset)) s.tree.count) (search when_1)),
        (
          when_1 _ (is_a class.Event (class_in b s.offset)) (search when_1),
          (
            when_1 _ (whole && is_a class.Seat (class_in b s.offset)) (search when_1),
            (
              when_1 _ (is_a class.Event (class_in b s.offset)) (search when_1),
              (
                when_1 _ (is_a class.Registers (class_in b s.offset)) (search when_1),
                (
                  when_1 _ (is_a class.Registers (class_in b s.offset)) (search when_1),
                  (when_1 _ (is_a class.Registers (class_in b s.offset)) (search when_1), tt),
                ),
              ),
            ),
          ),
        ),
      ),
    )

-- and is given to nothing that is not too long
pub only_1 : (whole : Bool) (b : List ℕ) → (read_in whole b).refusal ≡ 1 → 65536 < length b
only_1 whole b e =
    tested (ltb 65536 (length b)) (λ q. ltb-true 65536 (length b) q)
    (λ q.
    let g = given whole b (ltb-false 65536 (length b) q) some (λ z. omega (arith, e, z)) in
    absurd (eqb-false _ 1 (record_1 whole b (before b g.first.place)) (g.first.here ∙ e)))
  where
    some : length b ≡ 0 → ⊥
    some h = let w : ◌≡◌ {A = ℕ} 1 4 = sym e ∙ ap (λ (d : Loading). d.refusal) (read_empty whole b h) in omega arith
