-- The loop that reads: what is left to read, and what it gives back.
use Rattle.std.specs.Prelude.{◌≡◌, refl, Bool, List, ℕ, zero, suc, ◌+◌, ◌-◌, ◌≤◌, ◌<◌, length}
use Rattle.std.proofs.Common.{sym, ap, ◌∙◌, arith}
use Rattle.rack.specs.definitions.First.{◌or◌}
use Rattle.rack.specs.definitions.Table.{tree_of}
use Rattle.rack.specs.definitions.Grow.{no_memory, no_tree}
use Rattle.rack.specs.definitions.Refusal.{rack_refusal}
use Rattle.seat.specs.definitions.Grants.{no_grants}
use Rattle.seat.specs.definitions.Table.{grants_of}
use Rattle.rack_laws.specs.laws.Grown.{none_accepted}
use Rattle.file_record.specs.declared.Loaded.{Loaded}
use Rattle.file_record.specs.declared.Refused.{Refused}
use Rattle.file_record.specs.declared.Walk.{Walk}
use Rattle.std.specs.Prelude.{Result, Ok, Err}
use Rattle.rack.specs.declared.refusal.Refusal.{Refusal}
use Rattle.rack.specs.declared.refusal.Refusal.TheVariants.{TooLong, HostMisplaced}
use Rattle.rack.specs.definitions.Refused.{refusal_number}
use Rattle.rack.specs.laws.RefusedLaws.{refusal_not_0}
use Rattle.file_record.specs.definitions.Load.{Reading, at_start, record_fault, taken, Loading, refused, read_from, read_in}
use Rattle.file_record.specs.definitions.Loads.{reading_of, Steps, Loads}
use Rattle.file_record.specs.laws.Turns.{read_past, read_stop, read_step, taken_later, read_over, read_empty, read_all}
use Rattle.file_record.specs.laws.LoadLaws.{taken_accepted, Begun, taken_begun}

-- a refusal
pub loads_refused : {e : Refusal} {d : Loading} {o : ℕ} → d ≡ refused (refusal_number e) o → Loads (Err (record { refusal = e; offset = o })) d
loads_refused q = rw q (record { refusal = refl; offset = refl })

module _ (whole : Bool) (b : List ℕ) where
  -- the records are what is left to read from a reading on, whose rack is accepted
  pub record Left (s : Reading) : Type 0 where
    pub left : ℕ
    pub enough : length b ≤ s.offset + left
    pub begun : Begun b s
    pub same : read_from (length b) whole b at_start ≡ read_from left whole b s
    pub accepted : rack_refusal s.tree ≡ 0

  pub left_start : (w : Walk) (table grants : List ℕ) → tree_of table ≡ no_tree no_memory → grants_of grants ≡ no_grants
      → (w.offset ≡ 0) × ((w.registers ≡ 0) × ((w.events ≡ 0) × (w.least ≡ 0))) → Left (reading_of w table grants)
  left_start w table grants t g e =
      rw (e.0, e.1.0, e.1.1.0, e.1.1.1, t, g)
      (record {
        left = length b;
        enough = omega arith;
        begun = record { inside = omega arith; registers = omega arith; events = omega arith };
        same = refl;
        accepted = none_accepted no_memory;
      })

  module _ {s : Reading} (l : Left s) where
    -- at a fault
    pub left_found : s.offset < length b → (record_fault whole b s ≡ 0 → ⊥)
        → read_from (length b) whole b at_start ≡ refused (record_fault whole b s) s.offset
    left_found h z = found l.left l.enough l.same
      where
        found : (left : ℕ) → length b ≤ s.offset + left → read_from (length b) whole b at_start ≡ read_from left whole b s
            → read_from (length b) whole b at_start ≡ refused (record_fault whole b s) s.offset
        found zero n q = absurd (omega arith)
        found (suc left) n q = q ∙ read_stop whole b left s h z

    -- and past a record without one
    left_next : s.offset < length b → record_fault whole b s ≡ 0 → Left (taken b s)
    left_next h z = next l.left l.enough l.same
      where
        next : (left : ℕ) → length b ≤ s.offset + left → read_from (length b) whole b at_start ≡ read_from left whole b s → Left (taken b s)
        next zero n q = absurd (omega arith)
        next (suc left) n q =
            record {
              left = left;
              enough = omega (arith, taken_later whole b s);
              begun = taken_begun whole b s l.begun z;
              same = q ∙ read_step whole b left s h z;
              accepted = taken_accepted whole b s l.accepted z;
            }

    pub left_step : {w : Walk} {table grants : List ℕ} → s.offset < length b → Steps (Ok w) table grants (record_fault whole b s) (taken b s)
        → Left (reading_of w table grants)
    left_step h p = rw p.reading (left_next h (sym p.refusal))

    pub left_stop : {e : Refusal} {table grants : List ℕ} → s.offset < length b → Steps (Err e) table grants (record_fault whole b s) (taken b s)
        → Loads (Err (record { refusal = e; offset = s.offset })) (read_from (length b) whole b at_start)
    left_stop {e} h p =
        let q : refusal_number e ≡ record_fault whole b s = p.refusal in
        loads_refused (rw q (left_found h (λ z. refusal_not_0 e (q ∙ z))))

    -- a step goes forward
    pub left_less : {w : Walk} {table grants : List ℕ} {fault : ℕ} → s.offset < length b → Steps (Ok w) table grants fault (taken b s)
        → length b - w.offset < length b - s.offset
    left_less h p =
        let e = ap (λ (x : Reading). x.offset) p.reading in
        omega (arith, e, taken_later whole b s)

  -- at the end
  pub left_end : (w : Walk) (table grants : List ℕ) {o r : ℕ} → Left (reading_of w table grants) → length b ≤ w.offset
      → o ≡ w.events or w.offset → r ≡ w.registers or o
      → Loads (Ok (record { offset = o; registers = r; table = table; grants = grants })) (read_from (length b) whole b at_start)
  left_end w table grants l h e p =
      rw (l.same ∙ read_past whole b l.left (reading_of w table grants) h)
      (record { refusal = refl; offset = e; registers = p ∙ rw e; tree = refl; grants = refl })

  -- a whole file
  pub loads_over : 65536 < length b → Loads (Err (record { refusal = TooLong; offset = 65536 })) (read_in whole b)
  loads_over h = loads_refused (read_over whole b h)

  pub loads_empty : length b ≡ 0 → Loads (Err (record { refusal = HostMisplaced; offset = 0 })) (read_in whole b)
  loads_empty h = loads_refused (read_empty whole b h)

  pub loads_all : (r : Result Loaded Refused) → length b ≤ 65536 → (length b ≡ 0 → ⊥) → Loads r (read_from (length b) whole b at_start)
      → Loads r (read_in whole b)
  loads_all r h e l = rw (read_all whole b h e) l
