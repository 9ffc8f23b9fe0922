-- One record of a saved file: what is read of it, that it has no fault, and the reading after it.
use Rattle.std.specs.Prelude.{◌≡◌, refl, true, cond, List, ◌∷◌, ◌++◌, ℕ, ◌+◌, ◌≤◌, ◌<◌}
use Rattle.std.proofs.Common.{sym, ◌∙◌, length-append}
use Rattle.std.proofs.Math.Path.{ap}
use Rattle.std.proofs.Math.Bool.{false}
use native.Mathlib.Omega.{arith}
use Rattle.std.proofs.Math.ListN.{length}
use Rattle.std.proofs.Math.Seq.{take_at}
use borrow.Author.Tests.{le-ltb, lt-leb, ne_eqb, eq-eqb}
use Rattle.rack.specs.declared.Kind.{Kind}
use Rattle.rack.specs.declared.Kind.TheVariants.{Device, Bridge, OlderBridge}
use Rattle.rack.specs.declared.Range.{Range}
use Rattle.rack.specs.declared.Node.{Node}
use Rattle.rack.specs.definitions.First.{◌or◌, first}
use Rattle.rack.specs.definitions.Node.{kind_number, is_bridge, spelt}
use Rattle.rack.specs.laws.Bools.{tested}
use Rattle.rack.specs.laws.NodeLaws.{kind_back}
use Rattle.rack.specs.definitions.Tree.{Tree}
use Rattle.rack.specs.definitions.Grow.{no_memory, no_tree, nodes_with, grown}
use Rattle.rack.specs.definitions.Refusal.{node_refusal}
use Rattle.seat.specs.definitions.Grants.{Grants, no_grants, seat_wrong, granting, seated}
use Rattle.seat.specs.declared.SeatRecord.{SeatRecord}
use Rattle.register_image.specs.definitions.Reset.{is_changed}
use Rattle.register_image.specs.definitions.Fixed.{part_wrong}
use Rattle.file_record.specs.declared.Class.TheVariants as class
use Rattle.file_record.specs.definitions.Number.{byte_in, word_in, qword_in}
use Rattle.file_record.specs.definitions.Record.{form_of, size_of, class_in, cut_short, host_in, region_from, node_in, seat_in, registers_in}
use Rattle.file_record.specs.definitions.Load.{Reading, at_start, shape_fault, node_fault, misplaced, unsound, record_held, record_fault, taken}
use Rattle.file_save.specs.definitions.Saved.{word_bytes, qword_bytes, host_bytes, node_bytes}
use Rattle.file_save.specs.laws.Length.{node_length}
use Rattle.save_laws.specs.laws.Here.{Here, here_length, here_byte, here_kind, here_word, here_qword, here_registers, word_read, qword_read}
use Rattle.save_laws.specs.laws.Goes.{Goes, goes_past}

-- a reading in front of a record, with no event before it
abbrev pub before : ℕ → ℕ → ℕ → Tree → Grants → Reading
before o registers least t g = record { offset = o; registers = registers; events = 0; least = least; tree = t; grants = g }

module _ (b : List ℕ) (o : ℕ) (t : Tree) (g : Grants) where
  ends : o + size_of (byte_in b o) ≤ length b → cut_short b o ≡ false
  unfolding cut_short
  ends l = le-ltb (length b) (o + size_of (byte_in b o)) l

  -- a host stands first
  host_right : o ≡ 0 → class_in b o ≡ class.Host → o + size_of (byte_in b o) ≤ length b → record_fault true b (before o 0 0 t g) ≡ 0
  unfolding record_fault shape_fault first
  host_right z k l = rw (k, ends l, eq-eqb o 0 z)

  host_taken : class_in b o ≡ class.Host
      → taken b (before o 0 0 t g) ≡ before (o + size_of (byte_in b o)) 0 0 (no_tree (host_in b o)) g
  unfolding taken
  host_taken k = rw k

  -- a node stands after it, with no register record before it
  node_right : 0 < o → class_in b o ≡ class.Node → o + size_of (byte_in b o) ≤ length b → node_fault b o t ≡ 0
      → record_fault true b (before o 0 0 t g) ≡ 0
  unfolding record_fault shape_fault first
  node_right p k l z = rw (k, ends l, ne_eqb o 0 (λ e. omega arith), eq-eqb (node_fault b o t) 0 z)

  node_taken : class_in b o ≡ class.Node
      → taken b (before o 0 0 t g) ≡ before (o + size_of (byte_in b o)) 0 0 (grown t (node_in b o)) g
  unfolding taken
  node_taken k = rw k

  -- so does a seat record
  seat_right : 0 < o → class_in b o ≡ class.Seat → o + size_of (byte_in b o) ≤ length b → seat_wrong t.count g (seat_in b o) ≡ false
      → record_fault true b (before o 0 0 t g) ≡ 0
  unfolding record_fault shape_fault first
  seat_right p k l z = rw (k, ends l, ne_eqb o 0 (λ e. omega arith), z)

  seat_taken : class_in b o ≡ class.Seat → seat_wrong t.count g (seat_in b o) ≡ false
      → taken b (before o 0 0 t g) ≡ before (o + size_of (byte_in b o)) 0 0 t (granting g (seat_in b o))
  unfolding taken seated
  seat_taken k z = rw (k, z)

  -- and a register record may stand after others
  module _ (registers least : ℕ) where
    registers_right : 0 < o → class_in b o ≡ class.Registers → o + size_of (byte_in b o) ≤ length b → misplaced b o t least ≡ false
        → unsound (t.node (byte_in b (o + 1))) (registers_in b o) ≡ false → record_held b o t (registers or o) ≡ false
        → record_fault true b (before o registers least t g) ≡ 0
    unfolding record_fault shape_fault first
    registers_right p k l z u h = rw (h, k, ends l, ne_eqb o 0 (λ e. omega arith), z, u)

    registers_taken : class_in b o ≡ class.Registers
        → taken b (before o registers least t g)
        ≡ before (o + size_of (byte_in b o)) (registers or o) (byte_in b (o + 1) + 1) t g
    unfolding taken
    registers_taken k = rw k

-- a node's kind tells the class and the length of its record
kind_class : (k : Kind) → (form_of (kind_number k)).class ≡ class.Node
unfolding form_of
kind_class Device = refl
kind_class Bridge = refl
kind_class OlderBridge = refl

kind_size : (k : Kind) → size_of (kind_number k) ≡ cond (is_bridge k) 7 13
unfolding form_of
kind_size Device = refl
kind_size Bridge = refl
kind_size OlderBridge = refl

-- what is read of a node's record
module _ (b : List ℕ) (o : ℕ) (y : List ℕ) (n : Node) (h : Here b o (node_bytes n ++ y)) where
  node_kind : byte_in b o ≡ kind_number n.kind
  unfolding node_bytes
  node_kind = here_kind b o (node_bytes n ++ y) h

  pub node_class : class_in b o ≡ class.Node
  node_class = ap (λ (x : ℕ). (form_of x).class) node_kind ∙ kind_class n.kind

  pub node_size : size_of (byte_in b o) ≡ length (node_bytes n)
  node_size = ap (λ (x : ℕ). size_of x) node_kind ∙ kind_size n.kind ∙ sym (node_length n)

  here_region : (r : List ℕ) → Here b o r → (k : ℕ) → region_from b (o + k) ≡ region_from r k
  here_region r h k = let e : o + k + 1 ≡ o + (k + 1) = omega arith in rw (e, here_byte b o r h k, here_byte b o r h (k + 1))

  node_in_lem : node_in b o ≡ spelt n
  unfolding node_in node_bytes
  node_in_lem =
      let r = node_bytes n ++ y in
      let v : word_in b (o + 3) ≡ n.vendor_id = here_word b o r h 3 ∙ word_read n.vendor_id in
      let d : word_in b (o + 5) ≡ n.device_id = here_word b o r h 5 ∙ word_read n.device_id in
      rw (node_kind, kind_back n.kind, here_byte b o r h 1, here_byte b o r h 2, v, d)
      (tested (is_bridge n.kind) (λ q. rw q)
      (λ q.
      let p = rw q at h in
      rw (q, here_region _ p 7, here_region _ p 9, here_region _ p 11)))

-- a record of x bytes ends within the file
module _ (b : List ℕ) (o : ℕ) (x y : List ℕ) (h : Here b o (x ++ y)) where
  pub within : o + length x ≤ length b
  within = omega (arith, here_length b o (x ++ y) h, length-append x y)

-- past the host
pub host_goes : (b : List ℕ) (h : Range) (y : List ℕ) → Here b 0 (host_bytes h ++ y) → Goes b at_start (before 17 0 0 (no_tree h) no_grants)
unfolding form_of
host_goes b h y p =
    let r = host_bytes h ++ y in
    let k : byte_in b 0 ≡ 1 = here_kind b 0 r p in
    let c : class_in b 0 ≡ class.Host = ap (λ (x : ℕ). (form_of x).class) k in
    let s : size_of (byte_in b 0) ≡ 17 = ap (λ (x : ℕ). size_of x) k in
    let l : 0 + 17 ≤ length b = within b 0 (host_bytes h) y p in
    let f : qword_in b 1 ≡ h.first = here_qword b 0 r p 1 ∙ qword_read h.first (qword_bytes h.last ++ y) in
    let e : qword_in b 9 ≡ h.last = here_qword b 0 r p 9 ∙ qword_read h.last y in
    goes_past b (omega arith) (host_right b 0 (no_tree no_memory) no_grants refl c (omega arith))
    (host_taken b 0 (no_tree no_memory) no_grants c ∙ rw (s, f, e))

module _ (b : List ℕ) (o : ℕ) (t : Tree) (g : Grants) (y : List ℕ) (after : 0 < o) where
  -- past a node
  pub node_goes : (n : Node) → Here b o (node_bytes n ++ y) → node_refusal (nodes_with t n) t.count ≡ 0 → spelt n ≡ n
      → Goes b (before o 0 0 t g) (before (o + length (node_bytes n)) 0 0 (grown t n) g)
  unfolding node_fault
  node_goes n p z q =
      let c = node_class b o y n p in
      let e : node_in b o ≡ n = node_in_lem b o y n p ∙ q in
      let l : o + size_of (byte_in b o) ≤ length b = omega (arith, within b o (node_bytes n) y p, node_size b o y n p) in
      goes_past b (omega arith) (node_right b o t g after c l (rw e z)) (node_taken b o t g c ∙ rw (node_size b o y n p, e))

  -- past a seat record
  pub seat_goes : (seat node mask : ℕ) → Here b o ((9 ∷ seat ∷ node ∷ word_bytes mask) ++ y)
      → seat_wrong t.count g (record { seat = seat; node = node; mask = mask }) ≡ false
      → Goes b (before o 0 0 t g) (before (o + 5) 0 0 t (granting g (record { seat = seat; node = node; mask = mask })))
  unfolding form_of
  seat_goes seat node mask p z =
      let r = (9 ∷ seat ∷ node ∷ word_bytes mask) ++ y in
      let k : byte_in b o ≡ 9 = here_kind b o r p in
      let c : class_in b o ≡ class.Seat = ap (λ (x : ℕ). (form_of x).class) k in
      let s : size_of (byte_in b o) ≡ 5 = ap (λ (x : ℕ). size_of x) k in
      let l : o + 5 ≤ length b = within b o (9 ∷ seat ∷ node ∷ word_bytes mask) y p in
      let e : seat_in b o ≡ record { seat = seat; node = node; mask = mask } =
      rw (here_byte b o r p 1, here_byte b o r p 2, here_word b o r p 3, word_read mask) in
      let w : seat_wrong t.count g (seat_in b o) ≡ false = rw e z in
      goes_past b (omega arith) (seat_right b o t g after c (omega arith) w)
      (seat_taken b o t g c w ∙ rw s (ap (λ (x : SeatRecord). before (o + 5) 0 0 t (granting g x)) e))

  -- past a register record
  pub registers_goes : (registers least i : ℕ) (part : List ℕ) → length part ≡ 64 → Here b o ((11 ∷ i ∷ part) ++ y)
      → least ≤ i → i < t.count → is_changed (t.node i) part ≡ true → part_wrong (t.node i) part ≡ false
      → record_held b o t (registers or o) ≡ false
      → Goes b (before o registers least t g) (before (o + length (11 ∷ i ∷ part)) (registers or o) (i + 1) t g)
  unfolding form_of
  registers_goes registers least i part long p a l changed right free =
      let r = (11 ∷ i ∷ part) ++ y in
      let k : byte_in b o ≡ 11 = here_kind b o r p in
      let c : class_in b o ≡ class.Registers = ap (λ (x : ℕ). (form_of x).class) k in
      let s : size_of (byte_in b o) ≡ length (11 ∷ i ∷ part) = ap (λ (x : ℕ). size_of x) k ∙ omega arith in
      let n : byte_in b (o + 1) ≡ i = here_byte b o r p 1 in
      let e : registers_in b o ≡ part = here_registers b o r p ∙ take_at part y 64 long in
      goes_past b (omega (arith, within b o (11 ∷ i ∷ part) y p))
      (registers_right b o t g registers least after c (omega (arith, within b o (11 ∷ i ∷ part) y p))
      (rw (n, lt-leb t.count i l, le-ltb i least a)) (rw (n, e, changed, right)) free)
      (registers_taken b o t g registers least c ∙ rw (s, n))
