-- The steps of a walk past one record.
use Rattle.std.specs.Prelude.{◌≡◌, refl, Bool, true, false, ◌&&◌, List, [], ◌∷◌, ℕ, ◌+◌, ◌≤◌, ◌<◌, length, get_or}
use Rattle.std.proofs.Math.Path.{sym, ap}
use Rattle.std.proofs.Common.{◌∙◌, arith, lit<}
use Rattle.std.proofs.Math.Bool.{and-false, and-true}
use Rattle.std.proofs.lemmas.Bool.{false≢true}
use borrow.Author.Tests.{eq-eqb, eqb-true, ltb-false, not-false}
use Rattle.rack.specs.declared.Node.{Node}
use Rattle.rack.specs.definitions.First.{◌when◌, ◌or◌, first}
use Rattle.rack.specs.laws.FirstLaws.{when_not, or_last, chain_found}
use Rattle.rack.specs.definitions.Tree.{Tree}
use Rattle.rack.specs.definitions.Table.{tree_of}
use Rattle.rack.specs.definitions.Grow.{no_tree, grown}
use Rattle.rack.specs.definitions.Refusal.{node_refusal, rack_refusal}
use Rattle.rack_laws.specs.laws.First.{at, list_none_given}
use Rattle.rack_laws.specs.laws.Grown.{grown_full}
use Rattle.rack_laws.specs.laws.Sound.{nodes_le}
use Rattle.rack.specs.declared.Range.{Range}
use Rattle.seat.specs.definitions.Grants.{Grants, seat_wrong, granting, faulty, seated}
use Rattle.seat.specs.declared.SeatRecord.{SeatRecord}
use Rattle.seat.specs.definitions.Table.{grants_of}
use Rattle.file_record.specs.declared.Class.{Class}
use Rattle.file_record.specs.declared.Class.TheVariants as class
use Rattle.file_record.specs.declared.Event.{Event}
use Rattle.file_record.specs.declared.Walk.{Walk}
use Rattle.file_record.specs.definitions.Number.{byte_in}
use Rattle.file_record.specs.definitions.Record.{size_of, class_in, class_number, is_a, is_known, cut_short, host_in, node_in, seat_in}
use Rattle.file_record.specs.laws.RecordLaws.{registers_size}
use Rattle.file_record.specs.definitions.Events.{event_in, event_wrong, event_unknown}
use Rattle.file_record.specs.definitions.Load.{Reading, host_wrong, shape_faults, shape_fault, node_fault, field_fault, seat_fault, unknown_fault, event_fault, place_fault, value_fault, agreement_fault, register_fault, record_fault, taken}
use Rattle.file_record.specs.definitions.Loads.{reading_of, Steps}
use Rattle.std.specs.Prelude.{Result, Ok, Err, IsErrAnd}
use Rattle.rack.specs.declared.refusal.Refusal.{Refusal}
use Rattle.rack.specs.declared.refusal.Refusal.TheVariants.{BadField, UnknownSeat}
use Rattle.rack.specs.definitions.Refused.{refusal_number}
use Rattle.rack.specs.laws.RefusedLaws.{refusal_not_0}

-- a number is that of one class alone
numbered : ℕ → Class
numbered n = get_or (class.Unknown ∷ class.Host ∷ class.Node ∷ class.Seat ∷ class.Registers ∷ class.Event ∷ []) n class.Unknown

pub is_a_lem : (k c : Class) → is_a k c ≡ true → c ≡ k
unfolding numbered
is_a_lem k c e =
    let q : class_number c ≡ class_number k = sym (eqb-true (class_number k) (class_number c) e) in
    sym (number_of c) ∙ ap numbered {x = class_number c} {y = class_number k} q ∙ number_of k
  where
    number_of : (c : Class) → numbered (class_number c) ≡ c
    number_of class.Unknown = refl
    number_of class.Host = refl
    number_of class.Node = refl
    number_of class.Seat = refl
    number_of class.Registers = refl
    number_of class.Event = refl

-- a step that stops
pub step_stops : {e : Refusal} {table grants : List ℕ} {fault : ℕ} {next : Reading} → refusal_number e ≡ fault
    → Steps (Err e) table grants fault next
step_stops e = record { refusal = e; reading = tt }

pub step_fails : (r : Result Walk Refusal) (e : Refusal) {table grants : List ℕ} {fault : ℕ} {next : Reading} → IsErrAnd r (λ y. y ≡ e)
    → refusal_number e ≡ fault → Steps r table grants fault next
step_fails (Ok w) s h e = absurd h
step_fails (Err y) s h e = step_stops (ap refusal_number h ∙ e)

-- 6 to 10 of a node: after 96 of them each is one too many
module _ (b : List ℕ) (o : ℕ) (t : Tree) where
  pub node_full : {k : ℕ} → k ≡ t.count → rack_refusal t ≡ 0 → 96 ≤ k → 6 ≡ node_fault b o t
  unfolding node_fault
  node_full e ok h = sym (grown_full t (node_in b o) ok (omega (arith, e)))

  pub node_fault_lem : {r k : ℕ} {u : Tree} {n : Node} → n ≡ node_in b o → k ≡ t.count → u ≡ grown t n → r ≡ node_refusal u.node k
      → r ≡ node_fault b o t
  unfolding node_fault grown
  node_fault_lem n k g r = rw (← n) (r ∙ ap (node_refusal _) k ∙ ap (λ (v : Tree). node_refusal v.node t.count) g)

  pub node_added : {u : Tree} {n : Node} → n ≡ node_in b o → u ≡ grown t n → u ≡ grown t (node_in b o)
  node_added n g = rw (← n) g

-- an accepted rack has at most 96 nodes
pub few_nodes : (t : Tree) {k : ℕ} → k ≡ t.count → rack_refusal t ≡ 0 → k ≤ 96
few_nodes t e ok = omega (arith, e, nodes_le t ok)

-- 14 of a seat record, which stops a whole file and is noted in the rack bytes of a call; n nodes are before it
module _ (b : List ℕ) (o n : ℕ) (g : Grants) {k : ℕ} {r : SeatRecord} {x : Bool} (e : r ≡ seat_in b o) (c : k ≡ n)
    (w : x ≡ seat_wrong k g r) where
  told : x ≡ seat_wrong n g (seat_in b o)
  told = rw (← e, ← c) w

  pub seat_none : (whole : Bool) → x ≡ false → 0 ≡ (14 when seat_wrong n g (seat_in b o)) when whole
  seat_none true z = rw (← told, z)
  seat_none false z = refl

  pub seat_stops : (whole : Bool) → x ≡ true → whole ≡ true → 14 ≡ (14 when seat_wrong n g (seat_in b o)) when whole
  seat_stops whole z h = rw (h, ← told, z)

  pub seat_granted : {u : Grants} → x ≡ false → u ≡ granting g r → u ≡ seated n g (seat_in b o)
  unfolding seated
  seat_granted z d = rw (← told, z) (d ∙ ap (granting g) e)

  pub seat_noted : {u : Grants} → x ≡ true → u ≡ faulty g → u ≡ seated n g (seat_in b o)
  unfolding seated
  seat_noted z d = rw (← told, z) d

pub seat_passed : (m : ℕ) (whole : Bool) → whole ≡ false → 0 ≡ m when whole
seat_passed m whole h = rw h

-- a seat record that a function has found right
pub seat_right : (k : ℕ) (g : Grants) (r : SeatRecord) {x : Bool} → x ≡ seat_wrong k g r → x ≡ false → seat_wrong k g r ≡ false
seat_right k g r w z = sym w ∙ z

-- a record that is taken in
module _ (b : List ℕ) (w : Walk) (table grants : List ℕ) {o : ℕ} (past : o ≡ w.offset + size_of (byte_in b w.offset)) where
  pub node_past : {after : List ℕ} {fault : ℕ} → class_in b w.offset ≡ class.Node → 0 ≡ fault
      → tree_of after ≡ grown (tree_of table) (node_in b w.offset)
      → Steps (Ok (record { offset = o; registers = w.registers; events = w.events; least = w.least })) after grants fault (taken b (reading_of w table grants))
  unfolding taken
  node_past k z e = record { refusal = z; reading = rw (k, past, e) }

  pub seat_past : {after : List ℕ} {fault : ℕ} → class_in b w.offset ≡ class.Seat → 0 ≡ fault
      → grants_of after ≡ seated (tree_of table).count (grants_of grants) (seat_in b w.offset)
      → Steps (Ok (record { offset = o; registers = w.registers; events = w.events; least = w.least })) table after fault (taken b (reading_of w table grants))
  unfolding taken
  seat_past k z e = record { refusal = z; reading = rw (k, past, e) }

  pub event_past : {e : Event} {x y : Bool} {k : ℕ} → class_in b w.offset ≡ class.Event → e ≡ event_in b w.offset
      → x ≡ event_wrong (tree_of table) e → x ≡ false → y ≡ event_unknown (grants_of grants) e → y ≡ false → k ≡ w.events or w.offset
      → Steps (Ok (record { offset = o; registers = w.registers; events = k; least = w.least })) table grants (event_fault b w.offset (tree_of table) (grants_of grants))
      (taken b (reading_of w table grants))
  unfolding taken
  event_past c e x z y u k = record { refusal = rw (← e, ← x, z, ← y, u); reading = rw (c, past, k) }

  pub registers_past : {i k fault : ℕ} → class_in b w.offset ≡ class.Registers → i ≡ byte_in b (w.offset + 1) → 0 ≡ fault
      → k ≡ w.registers or w.offset
      → Steps (Ok (record { offset = o; registers = k; events = w.events; least = i + 1 })) table grants fault (taken b (reading_of w table grants))
  unfolding taken
  registers_past c e z k = record { refusal = z; reading = rw (c, past, k, e) }

  pub host_past : (after : List ℕ) {h : Range} → class_in b w.offset ≡ class.Host → h ≡ host_in b w.offset → tree_of after ≡ no_tree h
      → reading_of (record { offset = o; registers = w.registers; events = w.events; least = w.least }) after grants ≡ taken b (reading_of w table grants)
  unfolding taken
  host_past after c e t = rw (c, past, t, e)

-- 13 of an event, and 15 where there is no 13
module _ (b : List ℕ) (o : ℕ) (t : Tree) (g : Grants) {table grants : List ℕ} {e : Event} {x : Bool} {next : Reading}
    (at : e ≡ event_in b o) (w : x ≡ event_wrong t e) where
  pub event_stops : x ≡ true → Steps (Err BadField) table grants (event_fault b o t g) next
  event_stops z = step_stops (rw (← at, ← w, z))

  pub unknown_stops : {y : Bool} → x ≡ false → y ≡ event_unknown g e → y ≡ true → Steps (Err UnknownSeat) table grants (event_fault b o t g) next
  unknown_stops z u v = step_stops (rw (← at, ← w, z, ← u, v))

-- a record's fault, by its class
module _ (whole : Bool) (b : List ℕ) (s : Reading) {c : Class} (is : c ≡ class_in b s.offset) where
  pub shape_stops : (r : Result Walk Refusal) (e : Refusal) {table grants : List ℕ} {next : Reading} → IsErrAnd r (λ y. y ≡ e)
      → refusal_number e ≡ shape_fault whole b c s.offset s.registers s.events → Steps r table grants (record_fault whole b s) next
  unfolding record_fault
  shape_stops r e h f = step_fails r e h (chain_found _ _ (rw (← is) f) (refusal_not_0 e))

  module _ (shape : 0 ≡ shape_fault whole b c s.offset s.registers s.events) where
    none : shape_fault whole b (class_in b s.offset) s.offset s.registers s.events ≡ 0
    none = rw (← is) (sym shape)

    of_node : class_in b s.offset ≡ class.Node → record_fault whole b s ≡ node_fault b s.offset s.tree
    unfolding record_fault first
    of_node k = rw (eq-eqb _ 0 none, k, and-false whole) (or_last (node_fault b s.offset s.tree))

    of_event : class_in b s.offset ≡ class.Event → record_fault whole b s ≡ event_fault b s.offset s.tree s.grants
    unfolding record_fault first
    of_event k =
        rw (eq-eqb _ 0 none, k, and-false whole)
        (ap (λ n. field_fault b s.offset s.tree or n) (or_last (unknown_fault b s.offset s.grants)))

    of_registers : class_in b s.offset ≡ class.Registers → record_fault whole b s ≡ register_fault b s.offset s.tree s.registers s.least
    unfolding record_fault first
    of_registers k =
        rw (eq-eqb _ 0 none, k, and-false whole)
        (ap (λ n. place_fault b s.offset s.tree s.least or value_fault b s.offset s.tree or n)
        (or_last (agreement_fault b s.offset s.tree s.registers)))

    of_seat : class_in b s.offset ≡ class.Seat → record_fault whole b s ≡ seat_fault b s.offset s.tree s.grants when whole
    unfolding record_fault first
    of_seat k = rw (eq-eqb _ 0 none, k, and-true whole) (or_last (seat_fault b s.offset s.tree s.grants when whole))

    of_host : class_in b s.offset ≡ class.Host → record_fault whole b s ≡ 0
    unfolding record_fault first
    of_host k = rw (eq-eqb _ 0 none, k, and-false whole)

    module _ {r : Result Walk Refusal} {table grants : List ℕ} {next : Reading} where
      pub node_goes : c ≡ class.Node → Steps r table grants (node_fault b s.offset s.tree) next → Steps r table grants (record_fault whole b s) next
      node_goes k p = rw (of_node (sym is ∙ k)) p

      pub seat_goes : c ≡ class.Seat → Steps r table grants (seat_fault b s.offset s.tree s.grants when whole) next
          → Steps r table grants (record_fault whole b s) next
      seat_goes k p = rw (of_seat (sym is ∙ k)) p

      pub event_goes : c ≡ class.Event → Steps r table grants (event_fault b s.offset s.tree s.grants) next
          → Steps r table grants (record_fault whole b s) next
      event_goes k p = rw (of_event (sym is ∙ k)) p

      pub registers_goes : c ≡ class.Registers → Steps r table grants (register_fault b s.offset s.tree s.registers s.least) next
          → Steps r table grants (record_fault whole b s) next
      registers_goes k p = rw (of_registers (sym is ∙ k)) p

    pub host_goes : {w : Walk} {table grants : List ℕ} {next : Reading} → c ≡ class.Host → reading_of w table grants ≡ next
        → Steps (Ok w) table grants (record_fault whole b s) next
    host_goes k p = record { refusal = sym (of_host (sym is ∙ k)); reading = p }

-- a shape without a fault
module _ (whole : Bool) (b : List ℕ) (c : Class) (o registers events : ℕ) (z : shape_fault whole b c o registers events ≡ 0) where
  tests_fail : (k : ℕ) → k < 4 → at (shape_faults whole b c o registers events) k ≡ 0
  unfolding shape_fault
  tests_fail = list_none_given (shape_faults whole b c o registers events) z

  pub shape_known : is_known whole c ≡ true
  shape_known = not-false (is_known whole c) (when_not 2 _ (λ e. omega (arith, e)) (tests_fail 0 (lit< tt)))

  pub shape_ends : o + size_of (byte_in b o) ≤ length b
  unfolding cut_short
  shape_ends = ltb-false (length b) (o + size_of (byte_in b o)) (when_not 3 _ (λ e. omega (arith, e)) (tests_fail 1 (lit< tt)))

  pub shape_host : host_wrong c o ≡ false
  shape_host = when_not 4 _ (λ e. omega (arith, e)) (tests_fail 2 (lit< tt))

-- a register record ends within the file
pub registers_end : (whole : Bool) (b : List ℕ) (o registers events : ℕ) {c : Class} → c ≡ class_in b o
    → 0 ≡ shape_fault whole b c o registers events → c ≡ class.Registers → o + 66 ≤ length b
registers_end whole b o registers events {c} is s k =
    let size = registers_size (byte_in b o) (rw (← is, k) refl) in
    omega (arith, size, shape_ends whole b c o registers events (sym s))

-- what is unknown is refused
pub unknown_refused : (whole : Bool) (b : List ℕ) (o registers events : ℕ) {c : Class} → 0 ≡ shape_fault whole b c o registers events
    → c ≡ class.Unknown → ⊥
unknown_refused whole b o registers events {c} s k = none whole (rw k at (shape_known whole b c o registers events (sym s)))
  where
    none : (k : Bool) → k && false ≡ true → ⊥
    none true e = false≢true e
    none false e = false≢true e
