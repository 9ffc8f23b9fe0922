-- An answer is silent only where the event's initiator is a device with command bit 2 clear, and then nothing is crossed or changed. The falling number of a route, which ends
-- like that where it is spent, is never spent, so it shows in no answer.
use Rattle.std.proofs.Math.Path.{◌≡◌, ap}
use Rattle.std.proofs.Common.{◌∙◌, inl, inr, arith, eqb-true}
use Rattle.std.proofs.Math.Bool.{true, false}
use Rattle.std.specs.Prelude.{ℕ, ◌<◌, eqb}
use Rattle.std.proofs.lemmas.Bool.{eqb-false}
use Rattle.rack.specs.laws.Bools.{tested}
use Rattle.rack.specs.definitions.Tree.{Tree}
use Rattle.rack.specs.definitions.Stored.{Stored}
use Rattle.rack.specs.definitions.Refusal.{rack_refusal}
use Rattle.rack_laws.specs.laws.Sound.{not_host}
use Rattle.seat.specs.definitions.Grants.{Acting}
use Rattle.register_image.specs.definitions.Image.{Images, Result}
use Rattle.claim_agent.specs.declared.Space.TheVariants as space
use Rattle.route_bus.specs.declared.Access.{Access}
use Rattle.route_bus.specs.declared.Route.{Route}
use Rattle.route.specs.definitions.Route.{drives, configure, access}
use Rattle.route_laws.specs.definitions.Ends.{is_silent}
use Rattle.route_laws.specs.laws.Silent.{access_silent, configure_driven, host_driven, access_driven}
use Rattle.check_search.specs.definitions.Check.{check}
use Rattle.demand_passed.specs.definitions.Way.{Initiator}
use Rattle.file_record.specs.declared.Event.{Event}
use Rattle.file_record.specs.declared.Event.TheVariants.{Write, Read, Memory, Io, Check, Seat}
use Rattle.file_record.specs.definitions.Events.{event_wrong}
use Rattle.event_run.specs.definitions.Answers.{answer_number}
use Rattle.event_run.specs.declared.Ending.TheVariants.{Silent}
use Rattle.event_run.specs.definitions.Run.{configuration, addressed, answers, ended_at, ended, accessed, event_run}
use Rattle.call_table.specs.definitions.Call.{run_refusal, ran, run_in}
use Rattle.demand_calls.specs.definitions.Events.{reply_number, MayNotDrive, silent_reply}
use Rattle.demand_calls.specs.laws.Numbered.{ended_number, checked_number}
use Rattle.demand_calls.specs.laws.Refusing.{field_right, event_untouched, event_runs, event_accepted}
use Rattle.demand_calls.specs.laws.Checking.{initiator}

module _ (t : Tree) (by : Acting) (ok : rack_refusal t ≡ 0) (st : Stored t) (im : Images) where
  -- of a route that is driven no answer is silent
  driven_not : (x : Access) (o : Result Route) → is_silent o.answer.end ≡ false → answer_number (ended t by x o).answer ≡ 7 → ⊥
  driven_not x o d n =
      eqb-false _ 7 d (ended_number t by o.after x o.answer.crossings o.answer.end n (omega arith) (λ z. omega arith))

  started_silent : (x : Access) (i : ℕ) → Initiator t i → answer_number (ended t by x (access t im x i)).answer ≡ 7
      → ((i < t.count) × (drives t im i ≡ false)) × (accessed t by im x i ≡ answers 0 Silent im)
  unfolding ended_at
  started_silent x i (inl e) n =
      absurd
      (driven_not x (access t im x i) (ap (λ (k : ℕ). is_silent (access t im x k).answer.end) e ∙ host_driven t ok x st im) n)
  started_silent x i (inr d) n =
      tested (drives t im i) (λ q. absurd (driven_not x (access t im x i) (access_driven t ok x st im i d.0 q) n))
      (λ q. ((d.0, q), ap (ended t by x) (access_silent t im x i (not_host t ok i d.0) q)))

  run_silent : (e : Event) → event_wrong t e ≡ false → answer_number (event_run t by im e).answer ≡ 7
      → MayNotDrive t im e × (event_run t by im e ≡ answers 0 Silent im)
  unfolding event_run event_wrong
  run_silent (Write bus devfn register enables put) w n =
      let x = configuration true bus devfn register enables put in
      absurd (driven_not x (configure t im x) (configure_driven t ok x st im) n)
  run_silent (Read bus devfn register) w n =
      let x = configuration false bus devfn register 0 0 in absurd (driven_not x (configure t im x) (configure_driven t ok x st im) n)
  run_silent (Memory i direction a) w n =
      started_silent (addressed space.Memory direction a) i (initiator t i direction w) n
  run_silent (Io i direction a) w n = started_silent (addressed space.Io direction a) i (initiator t i direction w) n
  run_silent (Seat seat) w n = let z : ◌≡◌ {A = ℕ} 11 7 = n in absurd (omega arith)
  run_silent Check w n = absurd (checked_number (check t im) n (λ z. omega arith) (λ z. omega arith))

module _ (t : Tree) (by : Acting) (stored : rack_refusal t ≡ 0 → Stored t) (im : Images) where
  -- 7 is the number of a silent answer, which has no crossings and changes nothing
  pub event_silent : (e : Event) → reply_number (run_in t by im e).answer ≡ 7 → MayNotDrive t im e × (run_in t by im e ≡ silent_reply im)
  event_silent e n =
      tested (eqb (run_refusal t by im e) 0)
      (λ q.
      let z = eqb-true (run_refusal t by im e) 0 q in
      let a = event_accepted t by im e z in
      let s = run_silent t by a.0 (stored a.0) im e (field_right a.2) (rw (event_runs t by im e z) at n) in
      (s.0, event_runs t by im e z ∙ ap ran s.1))
      (λ q.
      let ne = eqb-false (run_refusal t by im e) 0 q in
      let z : ◌≡◌ {A = ℕ} 0 7 = rw (event_untouched t by im e ne) at n in
      absurd (omega arith))
