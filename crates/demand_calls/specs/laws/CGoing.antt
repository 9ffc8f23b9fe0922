-- Demand 3 over the call `rack_run` from C.
use Rattle.std.specs.Prelude.{◌≡◌, refl, List, Ok, Err, ℕ, ◌+◌, ◌^◌, ◌≤◌, ◌<◌, eqb, get_or}
use Rattle.std.proofs.Math.Path.{sym, ap}
use Rattle.std.proofs.Common.{◌∙◌, inl, inr, arith, le_refl}
use Rattle.rack.specs.laws.Bools.{tested}
use Rattle.rack.specs.laws.FirstLaws.{or_next, unless_none}
use Rattle.rack.specs.definitions.Tree.{depth, greatest_depth}
use Rattle.seat.specs.definitions.Grants.{acting}
use Rattle.register_image.specs.definitions.Image.{Images, Result}
use Rattle.claim_laws.specs.definitions.Same.{SameButStatus}
use Rattle.check_search.specs.definitions.Report.{Pass}
use Rattle.file_record.specs.definitions.Number.{byte_in, dword_in, qword_in}
use Rattle.file_record.specs.declared.Event.{Event}
use Rattle.file_record.specs.declared.Event.TheVariants.{Check}
use Rattle.file_record.specs.definitions.Events.{event_in, event_bytes}
use Rattle.file_record.specs.definitions.Load.{rack_alone}
use Rattle.file_record.specs.laws.LoadLaws.{alone_accepted, alone_stored}
use Rattle.event_run.specs.declared.Ending.{Ending}
use Rattle.event_run.specs.declared.Ending.TheVariants.{Data, Stored, Owner, Host, Unclaimed, Clash, Special, Silent, Denied}
use Rattle.event_run.specs.declared.Answer.{Answer}
use Rattle.event_run.specs.declared.Answer.TheVariants.{Ended, Checked, Seated}
use Rattle.call_table.specs.definitions.Call.{Reply, event_refusal, seat_refusal, run_refusal, ran, run_in, check_in}
use Rattle.call_numbers.specs.definitions.Numbers.{numbers_of, reply_numbers}
use Rattle.call_numbers.specs.definitions.Called.{Called}
use Rattle.muzgante.specs.definitions.Called.{replied_call, rack_run, rack_check}
use Rattle.demand_calls.specs.laws.Refusing.{accepts}
use Rattle.demand_calls.specs.laws.Checking.{event_is_check, check_passes, event_no_clash}
use Rattle.demand_calls.specs.laws.Silent.{event_silent}
use Rattle.demand_calls.specs.definitions.Events.{Fits, reply_number, Goes, crossings, start_bus, MayNotDrive, silent_reply}
use Rattle.demand_calls.specs.laws.Going.{event_goes, event_crossings}
use Rattle.demand_calls.specs.laws.CRefusing.{run_refuses}
use Rattle.demand_calls.specs.laws.CChecking.{answers, c_check_passed}
use Rattle.demand_calls.specs.definitions.CCalls.{number, Carries}

-- the fields of an event that is read from bytes fit their types
pub event_fits : (b : List ℕ) → ((k : ℕ) → get_or b k 0 < 256) → (o : ℕ) → Fits (event_in b o)
unfolding event_in
event_fits b bytes o =
    tested (eqb (byte_in b o) 4) (λ q. rw q (omega (arith, bytes (o + 1))))
    (λ q.
    tested (eqb (byte_in b o) 5) (λ p. rw (q, p) (omega (arith, bytes (o + 1))))
    (λ p.
    tested (eqb (byte_in b o) 6) (λ r. rw (q, p, r) (qword_fits (o + 3)))
    (λ r.
    tested (eqb (byte_in b o) 7) (λ s. rw (q, p, r, s) (dword_fits (o + 3)))
    (λ s. tested (eqb (byte_in b o) 10) (λ u. rw (q, p, r, s, u) tt) (λ u. rw (q, p, r, s, u) tt)))))
  where
    dword_fits : (o : ℕ) → dword_in b o < 2 ^ 32
    dword_fits o = omega (arith, bytes o, bytes (o + 1), bytes (o + 2), bytes (o + 2 + 1))

    qword_fits : (o : ℕ) → qword_in b o < 2 ^ 64
    qword_fits o = omega (arith, dword_fits o, dword_fits (o + 4))

-- the first two numbers of a reply
first : (r : Reply Answer) → get_or (reply_numbers r) 0 0 ≡ reply_number r
first (Err n) = refl
first (Ok a) = refl

second : (r : Reply Answer) → Carries (reply_number r) → get_or (reply_numbers r) 1 0 ≤ crossings r
second (Err n) l = le_refl 0
second (Ok (Ended c e)) l = ending e
  where
    ending : (e : Ending) → get_or (numbers_of (Ended c e)) 1 0 ≤ c
    ending (Data v) = le_refl c
    ending Stored = le_refl c
    ending (Owner n r o) = le_refl c
    ending (Host o) = le_refl c
    ending (Unclaimed h o) = le_refl c
    ending (Clash h x y) = le_refl c
    ending (Special h) = le_refl c
    ending Silent = omega arith
    ending Denied = le_refl c
second (Ok (Checked (Ok _))) l = le_refl 0
second (Ok (Checked (Err f))) (inl (inl l)) = absurd (omega arith)
second (Ok (Checked (Err f))) (inl (inr l)) = absurd (omega arith)
second (Ok (Checked (Err f))) (inr l) = absurd (omega arith)
second (Ok (Seated seat)) (inl (inl l)) = absurd (omega arith)
second (Ok (Seated seat)) (inl (inr l)) = absurd (omega arith)
second (Ok (Seated seat)) (inr l) = absurd (omega arith)

module _ (b : List ℕ) (seat : ℕ) (event : List ℕ) (im : Images) where
  -- what an accepted run hands back, and what it says
  pub handed : (rack_run b seat event im).code ≡ 0
      → rack_run b seat event im ≡ replied_call (run_in (rack_alone b).tree (acting (rack_alone b).grants seat) im (event_in event 0))
  unfolding rack_run
  handed c =
      let s = (run_refuses b seat event im).accepted c in
      unless_none _ _ (or_next (rack_alone b).refusal (event_bytes event) s.0 ∙ s.1)

  pub said : (rack_run b seat event im).code ≡ 0
      → number (rack_run b seat event im) ≡ reply_number (run_in (rack_alone b).tree (acting (rack_alone b).grants seat) im (event_in event 0)).answer
  said c = ap number (handed c) ∙ first (run_in (rack_alone b).tree (acting (rack_alone b).grants seat) im (event_in event 0)).answer

  -- no refusal over the rack that was read
  pub run_none : (rack_run b seat event im).code ≡ 0 → run_refusal (rack_alone b).tree (acting (rack_alone b).grants seat) im (event_in event 0) ≡ 0
  run_none c =
      let s = (run_refuses b seat event im).accepted c in
      accepts (rack_alone b).tree (rack_alone b).grants im (event_refusal (rack_alone b).tree (event_in event 0))
      (seat_refusal (acting (rack_alone b).grants seat) (event_in event 0)) (alone_accepted b s.0) s.2 s.3 s.4 s.5

  -- a check that is an event is `rack_check`
  pub c_run_checks : event_in event 0 ≡ Check → (rack_run b seat event im).code ≡ 0 → rack_run b seat event im ≡ rack_check b im
  unfolding rack_check
  c_run_checks e c =
      let t = (rack_alone b).tree in
      let by = acting (rack_alone b).grants seat in
      let z : run_refusal t by im Check ≡ 0 = rw e at (run_none c) in
      handed c
      ∙ ap (λ (k : Event). replied_call (run_in t by im k)) e
      ∙ ap replied_call (event_is_check t (rack_alone b).grants im seat z)
      ∙ sym (unless_none _ _ ((run_refuses b seat event im).accepted c).0)

  -- 'is never driven': 7 is the number of a silent answer
  pub c_run_silent : number (rack_run b seat event im) ≡ 7
      → MayNotDrive (rack_alone b).tree im (event_in event 0) × (rack_run b seat event im ≡ replied_call (silent_reply im))
  c_run_silent n =
      let c = answers (run_refuses b seat event im).untouched (λ z. omega arith) in
      let s = event_silent (rack_alone b).tree (acting (rack_alone b).grants seat)
      (λ ok. alone_stored b ((run_refuses b seat event im).accepted c).0) im (event_in event 0) (sym (said c) ∙ n) in
      (s.0, handed c ∙ ap replied_call s.1)

  -- 'The crossings carried in its answer are at most the depth of the starting bus plus the greatest depth in the rack'
  pub c_run_crossings : (rack_run b seat event im).code ≡ 0 → Carries (number (rack_run b seat event im))
      → get_or (rack_run b seat event im).numbers 1 0
      ≤ depth (rack_alone b).tree (start_bus (rack_alone b).tree (event_in event 0)) + greatest_depth (rack_alone b).tree
  c_run_crossings c l =
      let t = (rack_alone b).tree in
      let a = (run_in t (acting (rack_alone b).grants seat) im (event_in event 0)).answer in
      let m : Carries (reply_number a) = rw (said c) at l in
      omega (arith, event_crossings t (acting (rack_alone b).grants seat) (λ ok. alone_stored b ((run_refuses b seat event im).accepted c).0) im (event_in event 0), second a m, ap (λ (r : Called). get_or r.numbers 1 0) (handed c))

-- 'In a passed rack, with the registers it passed with, status bits aside'
module _ (b : List ℕ) (seat : ℕ) (event : List ℕ) (im im' : Images) (pass : number (rack_check b im) ≡ 8) (same : SameButStatus (rack_alone b).tree im im')
    (bytes : (k : ℕ) → get_or event k 0 < 256) where
  passed : check_in (rack_alone b).tree (rack_alone b).grants im ≡ Ok (Checked Pass)
  passed =
      let s = c_check_passed b im pass in
      check_passes (rack_alone b).tree (rack_alone b).grants im (alone_accepted b s.0) s.1 s.2 s.3

  -- 'every accepted configuration, memory or I/O access, whichever party starts it, is never driven, ends unclaimed, or ends at its one
  -- owner'
  pub c_run_goes : (rack_run b seat event im').code ≡ 0
      → (r : Result Answer) × (rack_run b seat event im' ≡ replied_call (ran r)) × Goes (rack_alone b).tree (acting (rack_alone b).grants seat) im' (event_in event 0) r
  c_run_goes c =
      let t = (rack_alone b).tree in
      let e = event_in event 0 in
      let s = (run_refuses b seat event im').accepted c in
      let by = acting (rack_alone b).grants seat in
      let g = event_goes t by (λ ok. alone_stored b s.0) im im' passed same e (event_fits event bytes 0) (run_none b seat event im' c) in
      (g.0, handed b seat event im' c ∙ ap replied_call g.1, g.2)

  -- 'and never in a clash'
  pub c_run_no_clash : number (rack_run b seat event im') ≡ 6 → ⊥
  c_run_no_clash n =
      let c = answers (run_refuses b seat event im').untouched (λ z. omega arith) in
      event_no_clash (rack_alone b).tree (acting (rack_alone b).grants seat) (λ ok. alone_stored b ((run_refuses b seat event im').accepted c).0) im im' passed same (event_in event 0) (event_fits event bytes 0)
      (sym (said b seat event im' c) ∙ n)
