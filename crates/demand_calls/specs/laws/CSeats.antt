-- 02, E1 over the call `rack_run` from C.
use Rattle.std.specs.Prelude.{◌≡◌, List, [], ◌∷◌, ℕ, eqb, length}
use Rattle.std.proofs.Common.{sym, ap, ◌∙◌, arith, eqb-true}
use Rattle.std.proofs.lemmas.Bool.{eqb-false}
use Rattle.rack.specs.laws.Bools.{tested}
use Rattle.seat.specs.definitions.Grants.{acting}
use Rattle.seat_laws.specs.definitions.Kept.{Kept}
use Rattle.seat_laws.specs.laws.Kept.{kept_refl, kept_trans}
use Rattle.register_image.specs.definitions.Image.{Images}
use Rattle.file_record.specs.definitions.Events.{event_in}
use Rattle.file_record.specs.definitions.Load.{rack_alone}
use Rattle.file_record.specs.laws.LoadLaws.{alone_stored}
use Rattle.call_table.specs.definitions.Call.{run_in}
use Rattle.muzgante.specs.definitions.Called.{replied_call, rack_run}
use Rattle.demand_calls.specs.definitions.Events.{DeniedWrite, WouldStore}
use Rattle.demand_calls.specs.definitions.CCalls.{number, denied_call, after_calls, all_told}
use Rattle.demand_calls.specs.laws.Seats.{event_denied, event_stores, seat_kept}
use Rattle.demand_calls.specs.laws.CRefusing.{run_refuses}
use Rattle.demand_calls.specs.laws.CChecking.{answers}
use Rattle.demand_calls.specs.laws.CGoing.{handed, said}

module _ (b : List ℕ) (seat : ℕ) (event : List ℕ) (im : Images) where
  -- 10 is the number of a denied write
  pub c_run_denied : number (rack_run b seat event im) ≡ 10
      → (gs : List ℕ) × (holder : ℕ) × (g : ℕ)
      × DeniedWrite (rack_alone b).tree (acting (rack_alone b).grants seat) im (event_in event 0) gs holder g
      × (rack_run b seat event im ≡ denied_call im (length gs))
  c_run_denied n =
      let c = answers (run_refuses b seat event im).untouched (λ z. omega arith) in
      let s = event_denied (rack_alone b).tree (acting (rack_alone b).grants seat) im (event_in event 0) (sym (said b seat event im c) ∙ n) in
      (s.0, s.1, s.2, s.3, handed b seat event im c ∙ ap replied_call s.4)

  -- a write that seat 0 stores is denied to a seat or ends as seat 0's, by what it is granted
  pub c_run_stores : number (rack_run b 0 event im) ≡ 2 → (rack_run b seat event im).code ≡ 0
      → WouldStore (rack_alone b).tree (acting (rack_alone b).grants seat) im (event_in event 0)
      × (rack_run b seat event im ≡ replied_call (run_in (rack_alone b).tree (acting (rack_alone b).grants seat) im (event_in event 0)))
  c_run_stores n c =
      let z = answers (run_refuses b 0 event im).untouched (λ z. omega arith) in (
        event_stores (rack_alone b).tree (acting (rack_alone b).grants seat) im (event_in event 0) (sym (said b 0 event im z) ∙ n),
        handed b seat event im c,
      )

  -- refused or not, a seat other than 0 leaves what it is not granted
  pub c_seat_kept : (seat ≡ 0 → ⊥) → Kept (rack_alone b).tree (acting (rack_alone b).grants seat) im (rack_run b seat event im).after
  c_seat_kept other =
      let r = rack_run b seat event im in
      tested (eqb r.code 0)
      (λ q.
      let c = eqb-true r.code 0 q in
      rw (handed b seat event im c)
      (seat_kept (rack_alone b).tree (λ ok. alone_stored b ((run_refuses b seat event im).accepted c).0)
      (acting (rack_alone b).grants seat) other im (event_in event 0)))
      (λ q.
      rw ((run_refuses b seat event im).untouched (eqb-false r.code 0 q))
      (kept_refl (rack_alone b).tree (acting (rack_alone b).grants seat) im))

-- and so does any list of calls that are told it
pub c_seat_keeps : (b : List ℕ) (seat : ℕ) → (seat ≡ 0 → ⊥) → (events : List (List ℕ)) (im : Images)
    → Kept (rack_alone b).tree (acting (rack_alone b).grants seat) im (after_calls b (all_told seat events) im)
unfolding after_calls all_told
c_seat_keeps b seat other [] im = kept_refl (rack_alone b).tree (acting (rack_alone b).grants seat) im
c_seat_keeps b seat other (event ∷ events) im =
    kept_trans (c_seat_kept b seat event im other) (c_seat_keeps b seat other events (rack_run b seat event im).after)
