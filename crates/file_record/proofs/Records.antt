-- A kind, a node and an event, after the code has read what their records hold.
use mathlib.Core.Path.{◌≡◌, refl, sym, ap, ◌∙◌}
use Rattle.std.specs.Prelude.{Option, Some, None}
use Rattle.std.specs.Option.{option_copied, unwrap_or}
use Rattle.std.specs.Slice.{IsItemAt}
use Rattle.std.specs.Borrow.{Bor}
use mathlib.Core.Bool.{Bool, true, false, not}
use mathlib.Core.List.{List, [], ◌∷◌}
use Prim.Native.Nat.{ℕ, ◌+◌, ◌-◌, ◌≤◌}
use native.Mathlib.Omega.{arith}
use lib.ListN.{length, get_or, get_or-eq_default, take, drop, length-drop}
use lib.Seq.{length-take-le}
use lib.Dec.{eqb}
use borrow.Author.Tests.{eq-eqb, ne_eqb}
use Rattle.rack.specs.declared.Kind.{Kind}
use Rattle.rack.specs.declared.Region.{Region}
use Rattle.rack.specs.declared.Node.{Node}
use Rattle.rack.specs.definitions.Node.{kind_from, is_bridge, no_region}
use Rattle.file_record.specs.declared.Event.{Event}
use Rattle.file_record.specs.declared.Event.TheVariants.{Write, Read, Memory, Io, Check, Seat}
use Rattle.file_record.specs.definitions.Number.{byte_in, word_in, dword_in, qword_in}
use Rattle.file_record.specs.definitions.Record.{size_of, class_in, is_a, region_from, node_in, registers_in}
use Rattle.file_record.specs.definitions.Events.{event_in, seat_after, event_bytes}
use Rattle.file_record.proofs.Classes.{same_is}
use Rattle.file_record.specs.contracts.Class.{the_type}
use denote.Enum.Bare.{sameb}
use Rattle.rack.specs.laws.FirstLaws.{chain_holds, chain_fails}
use Rattle.rack.specs.definitions.First.{◌when◌, first}
use Rattle.std.proofs.Common.{lit<}
use Rattle.file_record.specs.declared.Class.{Class}
use Rattle.file_record.specs.declared.Class.TheVariants as class

-- the element at a place of a table, or else a default
pub get_else : {X : Type 0} (xs : List X) (i : ℕ) (d : X) (r : Option (Bor X)) {o : Option X} {u : X} → IsItemAt xs i r
    → o ≡ option_copied r → u ≡ unwrap_or o d → u ≡ get_or xs i d
get_else xs i d None g o u = u ∙ ap (λ x. unwrap_or x d) o ∙ sym (get_or-eq_default xs d g.3)
get_else xs i d (Some x) g o u = u ∙ ap (λ y. unwrap_or y d) o ∙ g.3.1 d

abbrev made : Kind → ℕ → ℕ → ℕ → ℕ → List Region → Node
made k p d v i regions =
    record { kind = k; parent = p; device = d; vendor_id = v; device_id = i; regions = regions }

module _ (b : List ℕ) (o : ℕ) {kind : ℕ} (ek : kind ≡ byte_in b o) where
  module _ {p d v i : ℕ} {k : Kind} {is : Bool} (ep : p ≡ byte_in b (o + 1)) (ed : d ≡ byte_in b (o + 2)) (ev : v ≡ word_in b (o + 3))
      (ei : i ≡ word_in b (o + 5)) (et : k ≡ kind_from kind) (es : is ≡ is_bridge k) where
    pub bridge_in_lem : {regions : List Region} → is ≡ true → regions ≡ no_region ∷ no_region ∷ no_region ∷ [] → made k p d v i regions ≡ node_in b o
    unfolding node_in
    bridge_in_lem e en = simp (← ek, ← et, ← es, e, ep, ed, ev, ei, en)

    pub device_in : {r s u : Region} {regions : List Region} → is ≡ false → r ≡ region_from b (o + 7) → s ≡ region_from b (o + 9)
        → u ≡ region_from b (o + 11) → regions ≡ r ∷ s ∷ u ∷ [] → made k p d v i regions ≡ node_in b o
    unfolding node_in
    device_in e er es' eu en = simp (← ek, ← et, ← es, e, ep, ed, ev, ei, er, es', eu, en)

  module _ {x y : ℕ} (ex : x ≡ byte_in b (o + 1)) (ey : y ≡ byte_in b (o + 2)) where
    pub write_in : {z n put : ℕ} → kind ≡ 4 → z ≡ byte_in b (o + 3) → n ≡ byte_in b (o + 4) → put ≡ dword_in b (o + 5)
        → Write x y z n put ≡ event_in b o
    unfolding event_in
    write_in e ez en ep = rw (← ek, e, ex, ey, ez, en, ep)

    pub read_in_lem : {z : ℕ} → kind ≡ 5 → z ≡ byte_in b (o + 3) → Read x y z ≡ event_in b o
    unfolding event_in
    read_in_lem e ez = rw (← ek, e, ex, ey, ez)

    pub memory_in_lem : {a : ℕ} → kind ≡ 6 → a ≡ qword_in b (o + 3) → Memory x y a ≡ event_in b o
    unfolding event_in
    memory_in_lem e ea = rw (← ek, e, ex, ey, ea)

    pub io_in : {a : ℕ} → kind ≡ 7 → a ≡ dword_in b (o + 3) → Io x y a ≡ event_in b o
    unfolding event_in
    io_in e ea = rw (← ek, e, ex, ey, ea)

  pub seat_in_lem : {x : ℕ} → x ≡ byte_in b (o + 1) → kind ≡ 10 → Seat x ≡ event_in b o
  unfolding event_in
  seat_in_lem ex e = rw (← ek, e, ex)

  pub check_in_lem : (kind ≡ 4 → ⊥) → (kind ≡ 5 → ⊥) → (kind ≡ 6 → ⊥) → (kind ≡ 7 → ⊥) → (kind ≡ 10 → ⊥) → Check ≡ event_in b o
  unfolding event_in
  check_in_lem w r m i s = rw (← ek, ne_eqb kind 4 w, ne_eqb kind 5 r, ne_eqb kind 6 m, ne_eqb kind 7 i, ne_eqb kind 10 s)

-- the bytes of one event, and its class as the code compares it
module _ (b : List ℕ) {c : Class} (e : c ≡ class_in b 0) {other : Bool} (ne : other ≡ not (sameb the_type c class.Event)) where
  is_other : other ≡ not (is_a class.Event (class_in b 0))
  is_other = rw (← e, ← same_is c class.Event) ne

  pub event_none : other ≡ true → 2 ≡ event_bytes b
  unfolding event_bytes
  event_none h = chain_holds (3 when not (eqb (length b) (size_of (byte_in b 0))) ∷ []) 2 is_other h (lit< tt)

  module _ (h : other ≡ false) {kind size : ℕ} (k : kind ≡ byte_in b 0) (s : size ≡ size_of kind) where
    pub event_long : (length b ≡ size → ⊥) → 3 ≡ event_bytes b
    unfolding event_bytes first
    event_long n = chain_fails (3 when not (eqb (length b) (size_of (byte_in b 0))) ∷ []) 2 is_other h (rw (← k, ← s, ne_eqb (length b) size n))

    pub event_exact : length b ≡ size → 0 ≡ event_bytes b
    unfolding event_bytes first
    event_exact n = chain_fails (3 when not (eqb (length b) (size_of (byte_in b 0))) ∷ []) 2 is_other h (rw (← k, ← s, eq-eqb (length b) size n))

-- who acts after an event that names nobody
pub no_seat : (seat : ℕ) (e : Event) → ((x : ℕ) → e ≡ Seat x → ⊥) → seat ≡ seat_after seat e
unfolding seat_after
no_seat seat (Write bus devfn register enables put) n = refl
no_seat seat (Read bus devfn register) n = refl
no_seat seat (Memory initiator direction address) n = refl
no_seat seat (Io initiator direction address) n = refl
no_seat seat Check n = refl
no_seat seat (Seat x) n = absurd (n x refl)

-- the register bytes of a record that ends within the file
pub registers_is : (b : List ℕ) (o : ℕ) → take (o + 66 - (o + 2)) (drop (o + 2) b) ≡ registers_in b o
registers_is b o = let w : o + 66 - (o + 2) ≡ 64 = omega arith in rw w

pub registers_long : (b : List ℕ) (o : ℕ) → o + 66 ≤ length b → length (take (o + 66 - (o + 2)) (drop (o + 2) b)) ≡ 64
registers_long b o h =
    let w : o + 66 - (o + 2) ≡ 64 = omega arith in
    rw w (length-take-le 64 (drop (o + 2) b) (omega (arith, length-drop (o + 2) b)))
