-- 02, E1, E5: what a seat other than 0 cannot change over the run of a file, from a seat event to the next.
use Rattle.std.specs.Prelude.{◌≡◌, List, length}
use Rattle.std.proofs.Math.Path.{sym}
use Rattle.std.proofs.Common.{ap, ◌∙◌, subst, arith}
use Rattle.std.proofs.Math.Bool.{false}
use Prim.Native.Nat.{ℕ, zero, suc, ◌<◌}
use Rattle.std.proofs.Math.Dec.{leb}
use borrow.Author.Tests.{leb-false, lt-leb}
use Rattle.rack.specs.laws.Bools.{tested}
use Rattle.seat.specs.definitions.Grants.{acting}
use Rattle.register_image.specs.definitions.Image.{Images}
use Rattle.bus_reset.specs.definitions.Agreement.{image_refusal}
use Rattle.file_record.specs.definitions.Load.{file_in}
use Rattle.file_record.specs.definitions.Events.{event_in}
use Rattle.file_record.specs.laws.LoadLaws.{file_stored}
use Rattle.file_laws.specs.laws.Running.{OnEvents, start_on, next_on, event_right}
use Rattle.print_file.specs.declared.Cursor.{Cursor}
use Rattle.print_file.specs.definitions.Output.{first_at}
use Rattle.print_file.specs.definitions.Filling.{past, ran_at}
use Rattle.print_file.specs.definitions.Place.{end_up_to}
use Rattle.seat_laws.specs.definitions.Kept.{Kept}
use Rattle.seat_laws.specs.definitions.Running.{cursor_after}
use Rattle.seat_laws.specs.laws.Kept.{kept_refl, kept_trans}
use Rattle.event_laws.specs.laws.Accepted.{event_accepted}
use Rattle.seat_laws.specs.laws.Events.{event_kept}

-- one event on
one_on : (b : List ℕ) (at : Cursor) → at.offset < length b → (m : ℕ) → cursor_after (suc m) b at ≡ cursor_after m b (past b at)
unfolding cursor_after
one_on b at i m = rw (lt-leb (length b) at.offset i)

module _ (b : List ℕ) (ok : (file_in b).refusal ≡ 0) where
  one_kept : (at : Cursor) (im : Images) → OnEvents b ok at.offset → (at.seat ≡ 0 → ⊥) → image_refusal (file_in b).tree im ≡ 0
      → at.offset < length b
      → Kept (file_in b).tree (acting (file_in b).grants at.seat) im (ran_at (file_in b).tree (file_in b).grants b at im).after
  one_kept at im p other ok-im i =
      event_kept (file_in b).tree (file_stored b ok) (acting (file_in b).grants at.seat) other im ok-im (event_in b at.offset)
      (event_right b ok at.offset p i).0

  -- n events that one seat acts in
  stretch_kept : (n : ℕ) (at : Cursor) (im : Images) → OnEvents b ok at.offset → (at.seat ≡ 0 → ⊥) → image_refusal (file_in b).tree im ≡ 0
      → ((m : ℕ) → m < n → (cursor_after m b at).seat ≡ at.seat)
      → Kept (file_in b).tree (acting (file_in b).grants at.seat) im (end_up_to n (file_in b).tree (file_in b).grants b at im).before
  unfolding end_up_to cursor_after
  stretch_kept zero at im p other ok-im lasts = kept_refl (file_in b).tree (acting (file_in b).grants at.seat) im
  stretch_kept (suc zero) at im p other ok-im lasts =
      tested (leb (length b) at.offset) (λ q. rw q (kept_refl (file_in b).tree (acting (file_in b).grants at.seat) im))
      (λ q. rw q (one_kept at im p other ok-im (leb-false (length b) at.offset q)))
  stretch_kept (suc (suc n)) at im p other ok-im lasts =
      tested (leb (length b) at.offset) (λ q. rw q (kept_refl (file_in b).tree (acting (file_in b).grants at.seat) im))
      (λ q.
      let i = leb-false (length b) at.offset q in
      let k = one_kept at im p other ok-im i in
      let v = (ran_at (file_in b).tree (file_in b).grants b at im).after in
      let e : (past b at).seat ≡ at.seat = sym (ap (λ (c : Cursor). c.seat) (one_on b at i zero)) ∙ lasts 1 (omega arith) in
      let rest =
      stretch_kept (suc n) (past b at) v (next_on b ok at.offset p i) (λ z. other (sym e ∙ z)) (event_accepted (file_in b).tree (file_stored b ok) (acting (file_in b).grants at.seat) im ok-im (event_in b at.offset))
      (λ m h. sym (ap (λ (c : Cursor). c.seat) (one_on b at i m)) ∙ lasts (suc m) (omega arith) ∙ sym e) in
      step q (kept_trans k (subst (λ (seat : ℕ). Kept (file_in b).tree (acting (file_in b).grants seat) v (end_up_to (suc n) (file_in b).tree (file_in b).grants b (past b at) v).before) e rest)))
    where
      step : leb (length b) at.offset ≡ false
          → Kept (file_in b).tree (acting (file_in b).grants at.seat) im
          (end_up_to (suc n) (file_in b).tree (file_in b).grants b (past b at) (ran_at (file_in b).tree (file_in b).grants b at im).after).before
          → Kept (file_in b).tree (acting (file_in b).grants at.seat) im
          (end_up_to (suc (suc n)) (file_in b).tree (file_in b).grants b at im).before
      step q k = rw q k

  -- every cursor that the run comes to
  cursor_on : (m : ℕ) (at : Cursor) → OnEvents b ok at.offset → OnEvents b ok (cursor_after m b at).offset
  unfolding cursor_after
  cursor_on zero at p = p
  cursor_on (suc m) at p =
      tested (leb (length b) at.offset) (λ q. rw q p)
      (λ q. rw q (cursor_on m (past b at) (next_on b ok at.offset p (leb-false (length b) at.offset q))))

  -- after m events a seat other than 0 acts, and goes on acting for n events
  pub run_kept : (m n : ℕ) (im : Images) → image_refusal (file_in b).tree im ≡ 0
      → ((cursor_after m b (first_at (file_in b).offset)).seat ≡ 0 → ⊥)
      → ((k : ℕ) → k < n
      → (cursor_after k b (cursor_after m b (first_at (file_in b).offset))).seat ≡ (cursor_after m b (first_at (file_in b).offset)).seat)
      → Kept (file_in b).tree (acting (file_in b).grants (cursor_after m b (first_at (file_in b).offset)).seat) im
      (end_up_to n (file_in b).tree (file_in b).grants b (cursor_after m b (first_at (file_in b).offset)) im).before
  run_kept m n im ok-im other lasts =
      stretch_kept n (cursor_after m b (first_at (file_in b).offset)) im (cursor_on m (first_at (file_in b).offset) (start_on b ok)) other ok-im lasts

  -- a run has accepted images after every event, whoever acts, if it begins with such
  pub run_accepted : (n : ℕ) (at : Cursor) (im : Images) → image_refusal (file_in b).tree im ≡ 0
      → image_refusal (file_in b).tree (end_up_to n (file_in b).tree (file_in b).grants b at im).before ≡ 0
  unfolding end_up_to
  run_accepted zero at im e = e
  run_accepted (suc n) at im e =
      tested (leb (length b) at.offset) (λ q. rw q e)
      (λ q.
      rw q
      (run_accepted n (past b at) (ran_at (file_in b).tree (file_in b).grants b at im).after
      (event_accepted (file_in b).tree (file_stored b ok) (acting (file_in b).grants at.seat) im e (event_in b at.offset))))
