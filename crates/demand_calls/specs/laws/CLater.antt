-- Demand 3 over calls from C one after another: events that write no register leave a passed rack passed, whatever status bits they set.
use Rattle.std.specs.Prelude.{◌≡◌, false, ℕ, eqb}
use Rattle.std.proofs.Common.{sym, ◌∙◌}
use mathlib.Core.List.{List, [], ◌∷◌}
use borrow.Author.Tests.{eqb-true, eqb-false}
use Rattle.rack.specs.laws.Bools.{tested}
use Rattle.rack.specs.laws.FirstLaws.{or_next, unless_number, unless_none}
use Rattle.seat.specs.definitions.Grants.{acting}
use Rattle.register_image.specs.definitions.Image.{Images}
use Rattle.register_image.specs.definitions.Fixed.{lengths_wrong}
use Rattle.register_laws.specs.laws.Accepted as images
use Rattle.claim_laws.specs.laws.Apart.{same_refl, same_trans, same_right}
use Rattle.claim_laws.specs.definitions.Same.{SameButStatus}
use Rattle.file_record.specs.definitions.Events.{event_in, event_bytes}
use Rattle.file_record.specs.definitions.Load.{rack_alone}
use Rattle.file_record.specs.laws.LoadLaws.{alone_stored}
use Rattle.call_table.specs.definitions.Call.{run_in}
use Rattle.call_numbers.specs.definitions.Called.{refused_call}
use Rattle.muzgante.specs.definitions.Called.{replied_call, rack_run, rack_check}
use Rattle.demand_calls.specs.laws.Later.{event_same}
use Rattle.demand_calls.specs.definitions.Events.{WritesNone}
use Rattle.demand_calls.specs.laws.CChecking.{c_check_passed}
use Rattle.demand_calls.specs.definitions.CCalls.{number, CAct, after_calls, AllCallsWriteNone}

module _ (b : List ℕ) (ok : (rack_alone b).refusal ≡ 0) where
  call_same : (seat : ℕ) (event : List ℕ) (im : Images) → lengths_wrong (rack_alone b).tree im ≡ false → WritesNone (event_in event 0)
      → SameButStatus (rack_alone b).tree im (rack_run b seat event im).after
  unfolding rack_run
  call_same seat event im right none =
      let t = (rack_alone b).tree in
      tested (eqb (event_bytes event) 0)
      (λ q.
      rw (unless_none (replied_call (run_in t (acting (rack_alone b).grants seat) im (event_in event 0))) (λ n. refused_call n im)
      (or_next _ _ ok ∙ eqb-true (event_bytes event) 0 q))
      (event_same t (alone_stored b ok) (acting (rack_alone b).grants seat) im right (event_in event 0) none))
      (λ q.
      rw (unless_number (replied_call (run_in t (acting (rack_alone b).grants seat) im (event_in event 0))) (λ n. refused_call n im)
      (λ z. eqb-false (event_bytes event) 0 q (sym (or_next _ _ ok) ∙ z)))
      (same_refl t im))

  calls_same : (acts : List CAct) (im : Images) → lengths_wrong (rack_alone b).tree im ≡ false → AllCallsWriteNone acts
      → SameButStatus (rack_alone b).tree im (after_calls b acts im)
  unfolding after_calls AllCallsWriteNone
  calls_same [] im right none = same_refl (rack_alone b).tree im
  calls_same (a ∷ acts) im right none =
      let s = call_same a.seat a.event im right none.0 in
      same_trans s (calls_same acts (rack_run b a.seat a.event im).after (same_right s right) none.1)

-- so after any such list of calls a passed rack is what demand 3 asks of it: 'with the registers it passed with, status bits aside'
pub c_later_same : (b : List ℕ) (im : Images) → number (rack_check b im) ≡ 8 → (acts : List CAct) → AllCallsWriteNone acts
    → SameButStatus (rack_alone b).tree im (after_calls b acts im)
c_later_same b im pass acts none =
    let s = c_check_passed b im pass in calls_same b s.0 acts im (images.accepted (rack_alone b).tree im s.1).0 none
