-- A rack record of a file that ends within its first bytes is read in them alone as it is read in the file.
use Rattle.std.specs.Prelude.{◌≡◌, refl, Bool, false, ◌&&◌, cond, List, ℕ, ◌+◌, ◌*◌, ◌≤◌, ◌<◌, ltb, length, take}
use Rattle.std.proofs.Math.Path.{ap}
use Rattle.std.proofs.Common.{◌∙◌, arith, lit<, length-take-le, get_or-take, ltb-true, ltb-false, le-ltb}
use Rattle.std.proofs.Math.Bool.{true}
use Rattle.std.proofs.lemmas.Bool.{false≢true}
use Rattle.rack.specs.definitions.Count.{some, some_from}
use Rattle.rack.specs.definitions.First.{first}
use Rattle.rack.specs.definitions.Node.{kind_from, is_bridge}
use Rattle.rack.specs.definitions.Grow.{no_tree}
use Rattle.rack.specs.laws.Bools.{tested}
use Rattle.rack.specs.laws.Search.{none}
use Rattle.file_record.specs.declared.Class.{Class}
use Rattle.file_record.specs.declared.Class.TheVariants as class
use Rattle.file_record.specs.definitions.Number.{byte_in, word_in, dword_in, qword_in}
use Rattle.file_record.specs.definitions.Record.{form_of, size_of, class_in, is_a, is_rack, kind_in, region_from, cut_short, host_in, node_in, seat_in}
use Rattle.file_record.specs.definitions.Load.{Reading, host_wrong, shape_fault, node_fault, record_fault, taken}
use Rattle.file_record.specs.laws.RecordLaws.{no_form_lem, host_size}
use Rattle.file_record.specs.laws.Steps.{shape_host}
use Rattle.file_record.specs.laws.LoadLaws.{none_applies}

-- a seat record has 5 bytes, a bridge's 7 and a device's 13
module _ (f : ℕ → Bool) (table : some f 14 ≡ false) (past : (kind : ℕ) → 14 ≤ kind → f kind ≡ false) where
  by_kind : (kind : ℕ) → f kind ≡ false
  by_kind kind =
      tested (ltb kind 14) (λ q. none f 14 table kind (ltb-true kind 14 q)) (λ q. past kind (ltb-false kind 14 q))

seat_size : (kind : ℕ) → is_a class.Seat (form_of kind).class ≡ true → 5 ≤ size_of kind
unfolding form_of some_from
seat_size kind e =
    ltb-false (size_of kind) 5
    (rw e at (by_kind (λ k. is_a class.Seat (form_of k).class && ltb (size_of k) 5) refl (λ k h. rw (← no_form_lem k h)) kind))

node_size : (kind : ℕ) → is_a class.Node (form_of kind).class ≡ true → cond (is_bridge (kind_from kind)) 7 13 ≤ size_of kind
unfolding form_of some_from
node_size kind e =
    ltb-false (size_of kind) (cond (is_bridge (kind_from kind)) 7 13)
    (rw e at
    (by_kind (λ k. is_a class.Node (form_of k).class && ltb (size_of k) (cond (is_bridge (kind_from k)) 7 13)) refl
    (λ k h. rw (← no_form_lem k h)) kind))

-- the classes of rack records
pub by_rack : {P : Type 0} (c : Class) → is_rack c ≡ true → (c ≡ class.Host → P) → (c ≡ class.Node → P) → (c ≡ class.Seat → P) → P
by_rack class.Unknown e h n s = absurd (false≢true e)
by_rack class.Host e h n s = h refl
by_rack class.Node e h n s = n refl
by_rack class.Seat e h n s = s refl
by_rack class.Registers e h n s = absurd (false≢true e)
by_rack class.Event e h n s = absurd (false≢true e)

-- what is read within the first n bytes
module _ (b : List ℕ) (n : ℕ) where
  byte_same : (i : ℕ) → i < n → byte_in (take n b) i ≡ byte_in b i
  byte_same i h = get_or-take n b i 0 h

  word_same : (i : ℕ) → i + 1 < n → word_in (take n b) i ≡ word_in b i
  word_same i h = rw (byte_same (i + 1) h, byte_same i (omega arith))

  dword_same : (i : ℕ) → i + 3 < n → dword_in (take n b) i ≡ dword_in b i
  dword_same i h =
      ap (λ (x : ℕ). x * 65536 + word_in (take n b) i) (word_same (i + 2) (omega arith))
      ∙ ap (λ (x : ℕ). word_in b (i + 2) * 65536 + x) (word_same i (omega arith))

  qword_same : (i : ℕ) → i + 7 < n → qword_in (take n b) i ≡ qword_in b i
  qword_same i h =
      ap (λ (x : ℕ). x * 4294967296 + dword_in (take n b) i) (dword_same (i + 4) (omega arith))
      ∙ ap (λ (x : ℕ). dword_in b (i + 4) * 4294967296 + x) (dword_same i (omega arith))

  region_same : (i : ℕ) → i + 1 < n → region_from (take n b) i ≡ region_from b i
  region_same i h = rw (byte_same (i + 1) h, byte_same i (omega arith))

  -- a record that ends there
  module _ (o : ℕ) (ends : o + size_of (byte_in b o) ≤ n) where
    kind_same : byte_in (take n b) o ≡ byte_in b o
    kind_same = byte_same o (omega arith)

    host_same : is_a class.Host (class_in b o) ≡ true → host_in (take n b) o ≡ host_in b o
    host_same k =
        let l = host_size (byte_in b o) k in
        let f = qword_same (o + 1) (omega (arith, ends, l)) in
        let e = qword_same (o + 9) (omega (arith, ends, l)) in
        ap (λ (x : ℕ). record { first = x; last = qword_in (take n b) (o + 9) }) f
        ∙ ap (λ (x : ℕ). record { first = qword_in b (o + 1); last = x }) e

    seat_same : is_a class.Seat (class_in b o) ≡ true → seat_in (take n b) o ≡ seat_in b o
    seat_same k =
        let l = seat_size (byte_in b o) k in
        rw (byte_same (o + 1) (omega (arith, ends, l)), byte_same (o + 2) (omega (arith, ends, l)), word_same (o + 3) (omega (arith, ends, l)))

    node_same : is_a class.Node (class_in b o) ≡ true → node_in (take n b) o ≡ node_in b o
    unfolding node_in
    node_same k =
        let l = node_size (byte_in b o) k in
        let m : 7 ≤ size_of (byte_in b o) =
        tested (is_bridge (kind_in b o)) (λ q. rw q at l) (λ q. let d : 13 ≤ size_of (byte_in b o) = rw q at l in omega arith) in
        rw (
          kind_same,
          byte_same (o + 1) (omega (arith, ends, m)),
          byte_same (o + 2) (omega (arith, ends, m)),
          word_same (o + 3) (omega (arith, ends, m)),
          word_same (o + 5) (omega (arith, ends, m)),
        )
        (tested (is_bridge (kind_in b o)) (λ q. rw q)
        (λ q.
        let d : 13 ≤ size_of (byte_in b o) = rw q at l in
        rw (
          q,
          region_same (o + 7) (omega (arith, ends, d)),
          region_same (o + 9) (omega (arith, ends, d)),
          region_same (o + 11) (omega (arith, ends, d)),
        )))

-- a record of the rack itself, in front of which no register record and no event stands: it is taken in alike, and has no fault
module _ (b : List ℕ) (n : ℕ) (fits : n ≤ length b) (s : Reading) (ends : s.offset + size_of (byte_in b s.offset) ≤ n)
    (rack : is_rack (class_in b s.offset) ≡ true) where
  abbrev at : ℕ
  at = s.offset

  abbrev same : byte_in (take n b) at ≡ byte_in b at
  same = kind_same b n at ends

  told : {c : Class} → class_in b at ≡ c → class_in (take n b) at ≡ c
  told k = ap (λ (x : ℕ). (form_of x).class) same ∙ k

  pub taken_same : taken (take n b) s ≡ taken b s
  unfolding taken
  taken_same =
      by_rack (class_in b at) rack
      (λ k. rw (same, told k, k, ap no_tree (host_same b n at ends (rw k))))
      (λ k. rw (same, told k, k, node_same b n at ends (rw k)))
      (λ k. rw (same, told k, k, seat_same b n at ends (rw k)))

  module _ (z : record_fault true b s ≡ 0) (registers : s.registers ≡ 0) (events : s.events ≡ 0) where
    inside : ltb (length (take n b)) (at + size_of (byte_in b at)) ≡ false
    inside = le-ltb (length (take n b)) (at + size_of (byte_in b at)) (omega (arith, ends, length-take-le n b fits))

    placed : host_wrong (class_in b at) at ≡ false
    placed = shape_host true b (class_in b at) at s.registers s.events (none_applies true b s z 0 (lit< tt))

    nodes_same : class_in b at ≡ class.Node → node_fault (take n b) at s.tree ≡ node_fault b at s.tree
    unfolding node_fault
    nodes_same k = rw (node_same b n at ends (rw k))

    pub front_right : record_fault false (take n b) s ≡ 0
    unfolding record_fault shape_fault first cut_short
    front_right =
        by_rack (class_in b at) rack
        (λ k. rw (same, told k, inside, rw k at placed, registers, events))
        (λ k.
        let f : node_fault b at s.tree ≡ 0 = rw k at (none_applies true b s z 1 (lit< tt)) in
        rw (same, told k, inside, rw k at placed, registers, events, nodes_same k, f))
        (λ k. rw (same, told k, inside, rw k at placed, registers, events))
