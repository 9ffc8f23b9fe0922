-- 02, E4 over the call `rack_run` from C.
use Rattle.std.specs.Prelude.{◌≡◌, List, ℕ}
use Rattle.std.proofs.Common.{sym, ap, ◌∙◌, arith}
use Rattle.seat.specs.definitions.Grants.{acting}
use Rattle.register_image.specs.definitions.Image.{Images}
use Rattle.file_record.specs.definitions.Events.{event_in}
use Rattle.file_record.specs.definitions.Load.{rack_alone}
use Rattle.file_record.specs.laws.LoadLaws.{alone_accepted, alone_stored}
use Rattle.call_table.specs.definitions.Call.{event_refusal, seat_refusal}
use Rattle.muzgante.specs.definitions.Called.{replied_call, rack_run}
use Rattle.demand_calls.specs.definitions.Events.{SpecialCycle}
use Rattle.demand_calls.specs.definitions.CCalls.{number, special_call}
use Rattle.demand_calls.specs.laws.Refusing.{accepts}
use Rattle.demand_calls.specs.laws.Special.{event_special, event_arrives}
use Rattle.demand_calls.specs.laws.CRefusing.{run_refuses}
use Rattle.demand_calls.specs.laws.CChecking.{answers}
use Rattle.demand_calls.specs.laws.CGoing.{handed, said}

module _ (b : List ℕ) (seat : ℕ) (event : List ℕ) (im : Images) where
  -- 12 is the number of a special cycle
  pub c_run_special : number (rack_run b seat event im) ≡ 12
      → (gs : List ℕ) × (holder : ℕ) × SpecialCycle (rack_alone b).tree im (event_in event 0) gs holder
      × (rack_run b seat event im ≡ special_call im gs holder)
  c_run_special n =
      let c = answers (run_refuses b seat event im).untouched (λ z. omega arith) in
      let s = event_special (rack_alone b).tree (acting (rack_alone b).grants seat) im (event_in event 0) (sym (said b seat event im c) ∙ n) in
      (s.0, s.1, s.2, handed b seat event im c ∙ ap replied_call s.3)

  -- every special cycle that comes to a Type 0 has it
  pub c_run_arrives : (gs : List ℕ) (holder : ℕ) → (rack_run b seat event im).code ≡ 0
      → SpecialCycle (rack_alone b).tree im (event_in event 0) gs holder → rack_run b seat event im ≡ special_call im gs holder
  c_run_arrives gs holder c cycle =
      let t = (rack_alone b).tree in
      let e = event_in event 0 in
      let s = (run_refuses b seat event im).accepted c in
      let by = acting (rack_alone b).grants seat in
      let z = accepts t by.grants im (event_refusal t e) (seat_refusal by e) (alone_accepted b s.0) s.2 s.3 s.4 s.5 in
      handed b seat event im c ∙ ap replied_call (event_arrives t by im (λ ok. alone_stored b s.0) e gs holder z cycle)
