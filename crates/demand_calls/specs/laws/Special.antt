-- 02, E4 over the call `run_event`: which events end as special cycles, and that these change nothing.
use Rattle.std.proofs.Math.Path.{◌≡◌, refl, ap}
use Rattle.std.proofs.Common.{sym, ◌∙◌, true≢false, arith, eqb-true, eq-eqb}
use Rattle.std.proofs.Math.Bool.{true, false}
use Rattle.std.proofs.lemmas.Bool.{false≢true, eqb-false}
use Rattle.std.specs.Prelude.{List, ℕ, eqb, length}
use Rattle.rack.specs.laws.Bools.{tested}
use Rattle.rack.specs.definitions.Tree.{Tree}
use Rattle.rack.specs.definitions.Stored.{Stored}
use Rattle.rack.specs.definitions.Refusal.{rack_refusal}
use Rattle.seat.specs.definitions.Grants.{Acting}
use Rattle.register_image.specs.definitions.Image.{Images, Result}
use Rattle.claim_agent.specs.declared.Space.TheVariants as space
use Rattle.route_bus.specs.declared.Access.{Access}
use Rattle.route_bus.specs.declared.Route.{Route}
use Rattle.route_bus.specs.definitions.Look.{is_special_cycle}
use Rattle.route_bus.specs.definitions.Cross.{is_configuration}
use Rattle.route.specs.definitions.Route.{configure, access}
use Rattle.route_laws.specs.definitions.Ends.{is_special}
use Rattle.route_laws.specs.definitions.Path.{ToType0}
use Rattle.route_laws.specs.laws.Arrives.{special_fails, access_none}
use Rattle.route_laws.specs.laws.Special.{only_special, special_arrives}
use Rattle.check_search.specs.definitions.Check.{check}
use Rattle.file_record.specs.declared.Event.{Event}
use Rattle.file_record.specs.declared.Event.TheVariants.{Write, Read, Memory, Io, Check, Seat}
use Rattle.event_run.specs.declared.Ending.TheVariants.{Special}
use Rattle.event_run.specs.definitions.Answers.{answer_number}
use Rattle.event_run.specs.definitions.Run.{configuration, addressed, answers, ended_at, ended, configured, accessed, event_run}
use Rattle.call_table.specs.definitions.Call.{run_refusal, ran, run_in}
use Rattle.demand_calls.specs.definitions.Events.{reply_number, SpecialCycle, special_reply}
use Rattle.demand_calls.specs.laws.Numbered.{ended_number, checked_number}
use Rattle.demand_calls.specs.laws.Refusing.{event_untouched, event_runs, event_accepted}

module _ (t : Tree) (by : Acting) (im : Images) where
  -- an answer is special where its route is
  special_end : (x : Access) (o : Result Route) → answer_number (ended t by x o).answer ≡ 12 → is_special o.answer.end ≡ true
  special_end x o n =
      eq-eqb _ 12 (ended_number t by o.after x o.answer.crossings o.answer.end n (omega arith) (λ z. omega arith))

  configured_special : (x : Access) → answer_number (configured t by im x).answer ≡ 12
      → (is_special_cycle x ≡ true)
      × ((gs : List ℕ) × (holder : ℕ) × ToType0 t im x gs holder × (configured t by im x ≡ answers (length gs) (Special holder) im))
  unfolding ended_at
  configured_special x n =
      let s = only_special t im x (special_end x (configure t im x) n) in
      (s.0, (s.1.0, s.1.1, s.1.2, ap (ended t by x) s.1.3))

  accessed_not : (x : Access) (i : ℕ) → is_configuration x.space ≡ false → answer_number (accessed t by im x i).answer ≡ 12 → ⊥
  accessed_not x i other n =
      true≢false (sym (special_end x (access t im x i) n) ∙ access_none is_special special_fails refl t x other im i)

  run_special : (e : Event) → answer_number (event_run t by im e).answer ≡ 12
      → (gs : List ℕ) × (holder : ℕ) × SpecialCycle t im e gs holder × (event_run t by im e ≡ answers (length gs) (Special holder) im)
  unfolding event_run
  run_special (Write bus devfn register enables put) n =
      let s = configured_special (configuration true bus devfn register enables put) n in
      (s.1.0, s.1.1, (s.0, s.1.2), s.1.3)
  run_special (Read bus devfn register) n =
      absurd (false≢true (configured_special (configuration false bus devfn register 0 0) n).0)
  run_special (Memory i direction a) n = absurd (accessed_not (addressed space.Memory direction a) i refl n)
  run_special (Io i direction a) n = absurd (accessed_not (addressed space.Io direction a) i refl n)
  run_special (Seat seat) n = let z : ◌≡◌ {A = ℕ} 11 12 = n in absurd (omega arith)
  run_special Check n = absurd (checked_number (check t im) n (λ z. omega arith) (λ z. omega arith))

  -- 12 is the number of a special cycle
  pub event_special : (e : Event) → reply_number (run_in t by im e).answer ≡ 12
      → (gs : List ℕ) × (holder : ℕ) × SpecialCycle t im e gs holder × (run_in t by im e ≡ special_reply im gs holder)
  event_special e n =
      tested (eqb (run_refusal t by im e) 0)
      (λ q.
      let r = event_runs t by im e (eqb-true (run_refusal t by im e) 0 q) in
      let s = run_special e (rw r at n) in
      (s.0, s.1, s.2, r ∙ ap ran s.3))
      (λ q.
      let ne = eqb-false (run_refusal t by im e) 0 q in
      let z : ◌≡◌ {A = ℕ} 0 12 = rw (event_untouched t by im e ne) at n in
      absurd (omega arith))

  module _ (stored : rack_refusal t ≡ 0 → Stored t) where
    run_arrives : (e : Event) (gs : List ℕ) (holder : ℕ) → rack_refusal t ≡ 0 → SpecialCycle t im e gs holder
        → event_run t by im e ≡ answers (length gs) (Special holder) im
    unfolding event_run ended_at
    run_arrives (Write bus devfn register enables put) gs holder ok c =
        let x = configuration true bus devfn register enables put in
        ap (ended t by x) (special_arrives t im x ok c.0 (stored ok) gs holder c.1)
    run_arrives (Read bus devfn register) gs holder ok c = absurd c
    run_arrives (Memory i direction a) gs holder ok c = absurd c
    run_arrives (Io i direction a) gs holder ok c = absurd c
    run_arrives Check gs holder ok c = absurd c
    run_arrives (Seat seat) gs holder ok c = absurd c

    -- every special cycle that comes to a Type 0 has it
    pub event_arrives : (e : Event) (gs : List ℕ) (holder : ℕ) → run_refusal t by im e ≡ 0
        → SpecialCycle t im e gs holder → run_in t by im e ≡ special_reply im gs holder
    event_arrives e gs holder z c =
        event_runs t by im e z ∙ ap ran (run_arrives e gs holder (event_accepted t by im e z).0 c)
