-- The events from an offset on are the same for any number of records that reaches the file's end.
use Rattle.std.specs.Prelude.{◌≡◌, List, [], ◌∷◌, leb, length}
use Rattle.std.proofs.Math.Path.{refl}
use Rattle.std.proofs.Common.{sym, ap, ◌∙◌, arith, leb-true, leb-false, le-leb}
use Prim.Native.Nat.{ℕ, zero, suc, ◌+◌, ◌≤◌, ◌<◌}
use Rattle.std.proofs.lemmas.Bool.{lt-leb}
use Rattle.rack.specs.laws.Bools.{tested}
use Rattle.file_record.specs.declared.Event.{Event}
use Rattle.file_record.specs.definitions.Number.{byte_in}
use Rattle.file_record.specs.definitions.Record.{size_of}
use Rattle.file_record.specs.laws.RecordLaws.{size_least}
use Rattle.file_record.specs.definitions.Events.{event_in}
use Rattle.print_file.specs.definitions.Output.{events_up_to, events_at}

module _ (b : List ℕ) where
  -- none past the end
  pub events_past : (left o : ℕ) → length b ≤ o → events_up_to left b o ≡ []
  unfolding events_up_to
  events_past zero o h = refl
  events_past (suc left) o h = rw (le-leb (length b) o h)

  pub events_step : (left o : ℕ) → o < length b
      → events_up_to (suc left) b o ≡ event_in b o ∷ events_up_to left b (o + size_of (byte_in b o))
  unfolding events_up_to
  events_step left o h = rw (lt-leb (length b) o h)

  pub events_enough : (k m o : ℕ) → length b ≤ o + k → length b ≤ o + m → events_up_to k b o ≡ events_up_to m b o
  events_enough zero m o h i = events_past zero o (omega arith) ∙ sym (events_past m o (omega arith))
  events_enough (suc k) zero o h i = events_past (suc k) o (omega arith) ∙ sym (events_past zero o (omega arith))
  events_enough (suc k) (suc m) o h i =
      tested (leb (length b) o)
      (λ q.
      let w : length b ≤ o = leb-true (length b) o q in
      events_past (suc k) o w ∙ sym (events_past (suc m) o w))
      (λ q.
      let w : o < length b = leb-false (length b) o q in
      let s = size_least (byte_in b o) in
      events_step k o w
      ∙ ap (λ (l : List Event). event_in b o ∷ l) (events_enough k m (o + size_of (byte_in b o)) (omega arith) (omega arith))
      ∙ sym (events_step m o w))

  pub events_first : (o : ℕ) → o < length b → events_at b o ≡ event_in b o ∷ events_at b (o + size_of (byte_in b o))
  events_first o h =
      events_enough (length b) (suc (length b)) o (omega arith) (omega arith) ∙ events_step (length b) o h
