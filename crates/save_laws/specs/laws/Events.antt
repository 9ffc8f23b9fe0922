-- A saved file with events after it: they leave the rack, its grants and the places of its records as they are.
use Rattle.std.specs.Prelude.{◌≡◌, refl, true, false, ◌⊎◌, List, ◌++◌, ℕ, ◌+◌, ◌<◌, eqb, length}
use Rattle.std.proofs.Common.{sym, ap, ◌∙◌, true≢false, inl, inr, ⊎_elim, arith, length-append, ne_eqb}
use Rattle.std.proofs.Math.Bool.{and-false}
use Rattle.std.proofs.lemmas.Bool.{false≢true}
use Rattle.rack.specs.definitions.First.{◌or◌}
use Rattle.rack.specs.definitions.Tree.{Tree}
use Rattle.seat.specs.definitions.Grants.{Grants}
use Rattle.register_image.specs.definitions.Image.{Images}
use Rattle.file_record.specs.declared.Class.{Class}
use Rattle.file_record.specs.declared.Class.TheVariants as class
use Rattle.file_record.specs.definitions.Record.{form_of, class_in, is_known}
use Rattle.file_record.specs.definitions.Load.{Reading, follows_later, record_fault, taken, loaded, file_in}
use Rattle.file_record.specs.laws.Steps.{is_a_lem, shape_known}
use Rattle.file_record.specs.laws.Turns.{read_all, read_has}
use Rattle.file_record.specs.laws.LoadLaws.{read_long, read_some}
use Rattle.file_laws.specs.laws.Shape.{shape, in_place}
use Rattle.file_save.specs.definitions.Saved.{saved_file}
use Rattle.save_laws.specs.definitions.Said.{Savable}
use Rattle.save_laws.specs.definitions.After.{Follows, registers_at, first_registers, after_saved, saved_loading}
use Rattle.save_laws.specs.laws.Here.{Here, here_kind, here_past}
use Rattle.save_laws.specs.laws.ReadBack.{start_is, end_is, saved_goes, first_or, after_loaded}

-- after an event a record without a fault is an event
after_event : (c : Class) (registers events : ℕ) → (events ≡ 0 → ⊥) → follows_later c registers events ≡ false → is_known true c ≡ true
    → c ≡ class.Event
after_event class.Unknown registers events n f k = absurd (false≢true k)
after_event class.Host registers events n f k = absurd (true≢false (rw (ne_eqb events 0 n, and-false (eqb registers 0)) at f))
after_event class.Node registers events n f k = absurd (true≢false (rw (ne_eqb events 0 n, and-false (eqb registers 0)) at f))
after_event class.Seat registers events n f k = absurd (true≢false (rw (ne_eqb events 0 n, and-false (eqb registers 0)) at f))
after_event class.Registers registers events n f k = absurd (true≢false (rw (ne_eqb events 0 n) at f))
after_event class.Event registers events n f k = refl

module _ (b : List ℕ) (x : Reading) (z : record_fault true b x ≡ 0) where
  later_event : (x.events ≡ 0 → ⊥) → class_in b x.offset ≡ class.Event
  later_event n =
      after_event (class_in b x.offset) x.registers x.events n (in_place b x z)
      (shape_known true b (class_in b x.offset) x.offset x.registers x.events (shape b x z))

-- an event taken in
event_taken : (b : List ℕ) (x : Reading) → class_in b x.offset ≡ class.Event
    → ((taken b x).registers ≡ x.registers) × ((taken b x).events ≡ x.events or x.offset) × ((taken b x).tree ≡ x.tree)
    × ((taken b x).grants ≡ x.grants)
unfolding taken
event_taken b x k = (rw k, rw k, rw k, rw k)

module _ (t : Tree) (g : Grants) (im : Images) (s : Savable t g im) (rest : List ℕ) (follows : Follows rest) where
  abbrev b : List ℕ
  b = saved_file t g im ++ rest

  abbrev end : ℕ
  end = length (saved_file t g im)

  -- a reading among the events
  record Later (x : Reading) : Type 0 where
    registers : x.registers ≡ first_registers (registers_at t g) end
    events : x.events ≡ end
    tree : x.tree ≡ t
    grants : x.grants ≡ g

  some : end ≡ 0 → ⊥
  some e = omega (arith, start_is t g im, end_is t g im)

  rest_here : Here b end rest
  rest_here =
      let o : 0 + end ≡ end = omega arith in
      rw o at (here_past b 0 (saved_file t g im) rest (record { same = refl; inside = omega arith }))

  first_event : end < length b → class_in b end ≡ class.Event
  first_event l =
      ⊎_elim (λ e. let n : length rest ≡ 0 = ap length e in absurd (omega (arith, length-append (saved_file t g im) rest)))
      (λ e. ap (λ (k : ℕ). (form_of k).class) (here_kind b end rest rest_here) ∙ is_a_lem class.Event (class_in rest 0) e) follows

  from_first : class_in b end ≡ class.Event → Later (taken b (after_saved t g im))
  from_first k =
      let e = event_taken b (after_saved t g im) k in
      record { registers = e.0; events = e.1; tree = e.2; grants = e.3 }

  from_later : (x : Reading) → Later x → record_fault true b x ≡ 0 → Later (taken b x)
  from_later x p z =
      let n : x.events ≡ 0 → ⊥ = λ e. some (sym p.events ∙ e) in
      let e = event_taken b x (later_event b x z n) in
      record {
        registers = e.0 ∙ p.registers;
        events = e.1 ∙ rw (ne_eqb x.events 0 n) p.events;
        tree = e.2 ∙ p.tree;
        grants = e.3 ∙ p.grants;
      }

  later_loaded : (x : Reading) → Later x → loaded x ≡ saved_loading t g im
  later_loaded x p = rw (p.events, p.registers, p.tree, p.grants, ne_eqb end 0 some, first_or t g im)

  -- an accepted file that begins with a saved file
  pub file_back : (file_in b).refusal ≡ 0 → file_in b ≡ saved_loading t g im
  file_back ok =
      let x = saved_goes t g im s b rest refl (length b) (omega arith) in
      let e = read_all true b (read_long true b ok) (read_some true b ok) ∙ x.same in
      e
      ∙ read_has true b (λ y. (y ≡ after_saved t g im) ⊎ Later y) (λ d. d.refusal ≡ 0 → d ≡ saved_loading t g im)
      (λ y p i z.
      ⊎_elim (λ q. inr (rw q (from_first (first_event (rw q at i))))) (λ q. inr (from_later y q z)) p)
      (λ y p i q. ⊎_elim (λ w. rw w (after_loaded t g im s)) (λ w. later_loaded y w) p) (λ y p i z q. absurd (z q))
      x.more (after_saved t g im) x.enough (inl refl) (rw e at ok)
