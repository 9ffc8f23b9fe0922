-- What a file prints that begins with a saved file: the lines of the events after it, run from the saved registers. Document 02, E2: 'The
-- run then starts from these registers instead of reset, and so does every comparison of its output'.
use Rattle.std.specs.Prelude.{◌≡◌, true, false, leb}
use Rattle.std.proofs.Math.Path.{refl, sym, ap}
use Rattle.std.proofs.Common.{◌∙◌, arith}
use mathlib.Core.List.{List, ◌∷◌, ◌++◌}
use Prim.Native.Nat.{ℕ, zero, suc, ◌+◌, ◌*◌, ◌≤◌, ◌<◌}
use Rattle.std.proofs.Math.ListN.{length, drop, length-drop}
use Rattle.std.proofs.lemmas.List.{length-replicate}
use Rattle.std.proofs.Math.Seq.{drop-drop, drop-append_seam}
use borrow.Author.Tests.{le-leb, lt-leb, leb-true, leb-false, eq-eqb}
use Rattle.rack.specs.definitions.Tree.{Tree, bridge_count, device_count}
use Rattle.rack.specs.laws.Bools.{tested}
use Rattle.seat.specs.definitions.Grants.{Grants, acting}
use Rattle.register_image.specs.definitions.Image.{Images}
use Rattle.register_image.specs.definitions.Fixed.{lengths_wrong}
use Rattle.register_image.specs.definitions.Reset.{reset_images}
use Rattle.file_record.specs.declared.Class.TheVariants as class
use Rattle.file_record.specs.declared.Event.{Event}
use Rattle.file_record.specs.definitions.Number.{byte_in}
use Rattle.file_record.specs.definitions.Record.{size_of, class_in, is_a}
use Rattle.file_record.specs.definitions.Events.{event_in}
use Rattle.file_record.specs.definitions.Load.{taken, file_in}
use Rattle.file_record.specs.definitions.Start.{start_images}
use Rattle.file_laws.specs.definitions.Records.{before}
use Rattle.file_laws.specs.laws.Seats.{ended}
use Rattle.file_save.specs.definitions.Saved.{saved_file}
use Rattle.print_file.specs.definitions.Output.{lines_of, events_up_to, events_at, blank, output_of}
use Rattle.save_laws.specs.definitions.Said.{Savable}
use Rattle.save_laws.specs.definitions.After.{Follows}
use Rattle.save_laws.specs.definitions.Listed.{NoRegisters}
use Rattle.save_laws.specs.laws.Here.{Here, here_kind, here_byte, here_dword, here_qword}
use Rattle.save_laws.specs.laws.Earlier.{set_none}
use Rattle.save_laws.specs.laws.Events.{file_back}
use Rattle.save_laws.specs.laws.Start.{start_from_lem}

-- an event is read from where the file goes on
event_here : (b : List ℕ) (o : ℕ) (r : List ℕ) → Here b o r → event_in b o ≡ event_in r 0
unfolding event_in
event_here b o r h =
    rw (
      here_qword b o r h 3,
      here_dword b o r h 3,
      here_dword b o r h 5,
      here_kind b o r h,
      here_byte b o r h 1,
      here_byte b o r h 2,
      here_byte b o r h 3,
      here_byte b o r h 4,
    )

-- files that go on with the same bytes have the same events from there on
ends_too : (b c : List ℕ) (o p : ℕ) → drop o b ≡ drop p c → length b ≤ o → length c ≤ p
ends_too b c o p e l = omega (arith, ap length e, length-drop o b, length-drop p c)

module _ (b c : List ℕ) where
  event_same : (o p : ℕ) → drop o b ≡ drop p c → o < length b → p < length c
      → (event_in b o ≡ event_in c p) × (byte_in b o ≡ byte_in c p)
  event_same o p e l m =
      let h : Here b o (drop p c) = record { same = e; inside = omega arith } in
      let k : Here c p (drop p c) = record { same = refl; inside = omega arith } in
      (event_here b o (drop p c) h ∙ sym (event_here c p (drop p c) k), here_kind b o (drop p c) h ∙ sym (here_kind c p (drop p c) k))

  events_same : (left more o p : ℕ) → drop o b ≡ drop p c → length b ≤ o + left → length c ≤ p + more
      → events_up_to left b o ≡ events_up_to more c p
  unfolding events_up_to
  events_same zero zero o p e l m = refl
  events_same zero (suc more) o p e l m = rw (le-leb (length c) p (ends_too b c o p e (omega arith)))
  events_same (suc left) zero o p e l m = rw (le-leb (length b) o (ends_too c b p o (sym e) (omega arith)))
  events_same (suc left) (suc more) o p e l m =
      tested (leb (length b) o) (λ q. rw (q, le-leb (length c) p (ends_too b c o p e (leb-true (length b) o q))))
      (λ q.
      let i = leb-false (length b) o q in
      let j : p < length c = omega (arith, ap length e, length-drop o b, length-drop p c) in
      let same = event_same o p e i j in
      let n = size_of (byte_in c p) in
      let on : drop (o + n) b ≡ drop (p + n) c = sym (drop-drop n o b) ∙ ap (drop n) e ∙ drop-drop n p c in
      rw (q, lt-leb (length c) p j, same.0, same.1)
      (ap (λ (es : List Event). event_in c p ∷ es) (events_same left more (o + n) (p + n) on (omega arith) (omega arith))))

-- the events after the first bytes of a file are those of what follows
pub events_after : (x rest : List ℕ) → events_at (x ++ rest) (length x) ≡ events_at rest 0
events_after x rest =
    events_same (x ++ rest) rest (length (x ++ rest)) (length rest) (length x) 0 (drop-append_seam x rest) (omega arith) (omega arith)

-- images that are as long as a rack's registers
blank_right : (t : Tree) → lengths_wrong t (blank t) ≡ false
unfolding lengths_wrong
blank_right t =
    rw (
      length-replicate {A = ℕ} (64 * bridge_count t) 0,
      length-replicate {A = ℕ} (64 * device_count t) 0,
      eq-eqb (64 * bridge_count t) (64 * bridge_count t) refl,
      eq-eqb (64 * device_count t) (64 * device_count t) refl,
    )

module _ (b : List ℕ) (ok : (file_in b).refusal ≡ 0) where
  output_is : output_of b
      ≡ lines_of (file_in b).tree (acting (file_in b).grants 0) 1 (start_images b (blank (file_in b).tree)) (events_at b (file_in b).offset)
  unfolding output_of
  output_is = rw (eq-eqb (file_in b).refusal 0 ok)

module _ (t : Tree) (g : Grants) (im : Images) (s : Savable t g im) (rest : List ℕ) (follows : Follows rest)
    (ok : (file_in (saved_file t g im ++ rest)).refusal ≡ 0) where
  pub output_back : output_of (saved_file t g im ++ rest) ≡ lines_of t (acting g 0) 1 im (events_at rest 0)
  output_back =
      let e = file_back t g im s rest follows ok in
      output_is (saved_file t g im ++ rest) ok
      ∙ rw (e, start_from_lem t g im s (blank t) (blank_right t) rest, events_after (saved_file t g im) rest)

-- in an accepted file without register records they begin where the events do
module _ (b : List ℕ) where
  none_noted : (n : ℕ) → ((k : ℕ) → k < n → is_a class.Registers (class_in b (before b k).offset) ≡ false) → (before b n).registers ≡ 0
  unfolding before taken
  none_noted zero h = refl
  none_noted (suc n) h = rw (h n (omega arith)) (none_noted n (λ k i. h k (omega arith)))

  pub none_registers : (file_in b).refusal ≡ 0 → NoRegisters b → (file_in b).registers ≡ (file_in b).offset
  none_registers ok h = let e = ended b true ok in rw (e.told, none_noted e.count (λ k i. h k (e.stood k i)))

-- and the run starts from reset
module _ (b : List ℕ) (none : (file_in b).registers ≡ (file_in b).offset) where
  pub start_reset : (im : Images) → start_images b im ≡ reset_images (file_in b).tree im
  start_reset im = rw none (set_none b (length b) (file_in b).offset (file_in b).tree (reset_images (file_in b).tree im))

  pub output_reset : (file_in b).refusal ≡ 0
      → output_of b
      ≡ lines_of (file_in b).tree (acting (file_in b).grants 0) 1 (reset_images (file_in b).tree (blank (file_in b).tree))
      (events_at b (file_in b).offset)
  output_reset ok = output_is b ok ∙ rw (start_reset (blank (file_in b).tree))
