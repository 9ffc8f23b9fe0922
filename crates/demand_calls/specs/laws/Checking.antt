-- Demand 3 over the calls `run_check` and `run_event`.
use Rattle.event_run.specs.declared.Answer.{Answer}
use Rattle.std.proofs.Math.Path.{◌≡◌, refl, ap}
use Rattle.std.proofs.Common.{sym, ◌∙◌, inl, inr, eqb-true, ltb-true}
use Rattle.std.specs.Prelude.{Bool, not, ◌&&◌, ℕ, ltb, eqb, Ok, Err}
use Rattle.std.proofs.Math.Bool.{true, false}
use native.Mathlib.Omega.{arith}
use Rattle.std.proofs.lemmas.Bool.{eqb-false}
use Rattle.rack.specs.definitions.First.{unless}
use Rattle.rack.specs.laws.FirstLaws.{unless_number, unless_none}
use Rattle.rack.specs.laws.Bools.{tested, opposite, both, neither}
use Rattle.rack.specs.definitions.Node.{is_bridge}
use Rattle.rack.specs.definitions.Tree.{Tree, host}
use Rattle.rack.specs.definitions.Stored.{Stored}
use Rattle.rack.specs.definitions.Refusal.{rack_refusal}
use Rattle.seat.specs.definitions.Grants.{Grants, Acting, acting}
use Rattle.seat.specs.laws.Writing.{unknown_zero}
use Rattle.register_image.specs.definitions.Image.{Images, Result, gives}
use Rattle.bus_reset.specs.definitions.Agreement.{image_refusal}
use Rattle.claim_agent.specs.declared.Space.{Space}
use Rattle.claim_agent.specs.declared.Space.TheVariants as space
use Rattle.claim_laws.specs.definitions.Same.{SameButStatus}
use Rattle.route_bus.specs.declared.Access.{Access}
use Rattle.route_bus.specs.declared.Route.{Route}
use Rattle.route.specs.definitions.Route.{configure, access}
use Rattle.check_search.specs.definitions.Report.{Report, Pass, fault}
use Rattle.check_search.specs.definitions.Check.{check}
use Rattle.demand_passed.specs.laws.Clear.{passed, passes, faulted}
use Rattle.demand_passed.specs.laws.PassedRack.{access_no_clash, configure_no_clash}
use Rattle.file_record.specs.declared.Event.{Event}
use Rattle.file_record.specs.declared.Event.TheVariants.{Write, Read, Memory, Io, Check, Seat}
use Rattle.file_record.specs.definitions.Events.{initiates, access_wrong, event_wrong, seat_after}
use Rattle.event_run.specs.declared.Answer.TheVariants.{Checked}
use Rattle.event_run.specs.definitions.Answers.{answer_number}
use Rattle.event_run.specs.definitions.Run.{configuration, addressed, ended, event_run}
use Rattle.call_table.specs.definitions.Call.{Reply, refusal_by, run_refusal, run_in, check_in}
use Rattle.route_laws.specs.definitions.Ends.{is_clash}
use Rattle.demand_calls.specs.laws.Numbered.{ended_number, checked_number}
use Rattle.demand_calls.specs.laws.Refusing.{accepted, accepts, field_right, event_untouched, event_runs, event_accepted}
use Rattle.demand_passed.specs.definitions.FirstFault.{FirstFault}
use Rattle.demand_passed.specs.definitions.OneClaimant.{OneClaimant}
use Rattle.demand_passed.specs.definitions.Way.{Initiator}
use Rattle.demand_calls.specs.definitions.Events.{Fits, reply_number}

module _ (t : Tree) (g : Grants) (im : Images) where
  -- a check that is not refused says what the check says
  pub check_accepted : refusal_by t g im 0 0 ≡ 0 → check_in t g im ≡ Ok (Checked (check t im))
  unfolding check_in
  check_accepted z = unless_none _ _ z

  pub check_refused : (refusal_by t g im 0 0 ≡ 0 → ⊥) → check_in t g im ≡ Err (refusal_by t g im 0 0)
  unfolding check_in
  check_refused ne = unless_number _ _ ne

  -- the check is the event of kind 8, of seat 0
  pub check_is_event : check_in t g im ≡ (run_in t (acting g 0) im Check).answer
  unfolding check_in run_in event_wrong event_run seat_after unless
  check_is_event =
      tested (eqb (refusal_by t g im 0 0) 0) (λ q. rw (unknown_zero g 0 refl, q)) (λ q. rw (unknown_zero g 0 refl, q))

  -- and where that event is not refused, whichever seat acts
  pub event_is_check : (seat : ℕ) → run_refusal t (acting g seat) im Check ≡ 0 → run_in t (acting g seat) im Check ≡ gives (check_in t g im) im
  unfolding event_run
  event_is_check seat z =
      let a = event_accepted t (acting g seat) im Check z in
      event_runs t (acting g seat) im Check z
      ∙ ap (λ (r : Reply Answer). gives r im) (sym (check_accepted (accepts t g im 0 0 a.0 a.1 refl a.3 refl)))

  -- one that answers was accepted
  pub said : (r : Report) → check_in t g im ≡ Ok (Checked r)
      → (rack_refusal t ≡ 0) × (image_refusal t im ≡ 0) × (g.wrong ≡ false) × (check t im ≡ r)
  said r e =
      tested (eqb (refusal_by t g im 0 0) 0)
      (λ q.
      let z = eqb-true (refusal_by t g im 0 0) 0 q in
      let p : ◌≡◌ {A = Reply Answer} (Ok (Checked (check t im))) (Ok (Checked r)) = sym (check_accepted z) ∙ e in
      let a = accepted t g im 0 0 z in
      (a.0, a.1, a.3, cc))
      (λ q.
      let p : ◌≡◌ {A = Reply Answer} (Err (refusal_by t g im 0 0)) (Ok (Checked r)) = sym (check_refused (eqb-false (refusal_by t g im 0 0) 0 q)) ∙ e in
      let n : ◌≡◌ {A = ℕ} 0 1 = cc in
      absurd (omega arith))

  -- 'an accepted check passes exactly when the count of claimants is at most one on every bus, ..'
  pub check_passed : check_in t g im ≡ Ok (Checked Pass) → (rack_refusal t ≡ 0) × (image_refusal t im ≡ 0) × (g.wrong ≡ false) × OneClaimant t im
  check_passed e =
      let s = said Pass e in (s.0, s.1, s.2, passed t im s.3)

  pub check_passes : rack_refusal t ≡ 0 → image_refusal t im ≡ 0 → g.wrong ≡ false → OneClaimant t im → check_in t g im ≡ Ok (Checked Pass)
  check_passes z y w o = check_accepted (accepts t g im 0 0 z y refl w refl) ∙ ap (λ (r : Report). Ok (Checked r)) (passes t im o)

  -- 'If it does not pass, it shows the clash, driver and two claimants that document 01 names first'
  pub check_faulted : (bus : ℕ) (space : Space) (a driver x y : ℕ) → check_in t g im ≡ Ok (Checked (fault bus space a driver x y))
      → FirstFault t im bus space a driver x y
  check_faulted bus space a driver x y e =
      let s = said (fault bus space a driver x y) e in faulted t im bus space a driver x y s.3

module _ (t : Tree) where
  -- an initiator that 13 accepts is the host or a device
  pub initiator : (i direction : ℕ) → access_wrong t i direction ≡ false → Initiator t i
  initiator i direction e = by (eqb i host) refl
    where
      on : initiates t i ≡ true
      on = not_not (initiates t i) (neither (ltb 1 direction) (not (initiates t i)) e).1
        where
          not_not : (b : Bool) → not b ≡ false → b ≡ true
          not_not true n = refl
          not_not false n = sym n

      by : (b : Bool) → eqb i host ≡ b → Initiator t i
      by true q = inl (eqb-true i host q)
      by false q =
          let s : ltb i t.count && not (is_bridge (t.node i).kind) ≡ true = rw q at on in
          let r = both (ltb i t.count) _ s in
          inr (ltb-true i t.count r.0, opposite (is_bridge (t.node i).kind) r.1)

-- a tree that stores what its nodes say, once it is accepted: that of a decoded rack does (`accepted-stored`), as does one that is read
-- (`alone-stored`)
module _ (t : Tree) (by : Acting) (stored : rack_refusal t ≡ 0 → Stored t) (im im' : Images)
    (pass : check_in t by.grants im ≡ Ok (Checked Pass))
    (same : SameButStatus t im im') where
  -- an access that does not clash does not answer so
  routed_no_clash : (x : Access) (o : Result Route) → is_clash o.answer.end ≡ false → answer_number (ended t by x o).answer ≡ 6 → ⊥
  routed_no_clash x o q n =
      eqb-false _ 6 q (ended_number t by o.after x o.answer.crossings o.answer.end n (omega arith) (λ z. omega arith))

  run_no_clash : (e : Event) → Fits e → rack_refusal t ≡ 0 → Stored t → event_wrong t e ≡ false → check t im ≡ Pass
      → answer_number (event_run t by im' e).answer ≡ 6 → ⊥
  unfolding event_run event_wrong
  run_no_clash (Write bus devfn register enables put) f ok st w p =
      let x = configuration true bus devfn register enables put in
      routed_no_clash x (configure t im' x) (configure_no_clash t ok st im p im' same x (refl, f))
  run_no_clash (Read bus devfn register) f ok st w p =
      let x = configuration false bus devfn register 0 0 in
      routed_no_clash x (configure t im' x) (configure_no_clash t ok st im p im' same x (refl, f))
  run_no_clash (Memory i direction a) f ok st w p =
      let x = addressed space.Memory direction a in
      routed_no_clash x (access t im' x i) (access_no_clash t ok st im p im' same x (inl (refl, f)) i (initiator t i direction w))
  run_no_clash (Io i direction a) f ok st w p =
      let x = addressed space.Io direction a in
      routed_no_clash x (access t im' x i) (access_no_clash t ok st im p im' same x (inr (refl, f)) i (initiator t i direction w))
  run_no_clash (Seat seat) f ok st w p = λ n. let z : ◌≡◌ {A = ℕ} 11 6 = n in omega arith
  run_no_clash Check f ok st w p = λ n. checked_number (check t im') n (λ z. omega arith) (λ z. omega arith)

  -- 'In a passed rack, with the registers it passed with, status bits aside, every accepted .. access .. never in a clash': no event
  -- answers with number 6
  pub event_no_clash : (e : Event) → Fits e → reply_number (run_in t by im' e).answer ≡ 6 → ⊥
  event_no_clash e f n =
      tested (eqb (run_refusal t by im' e) 0)
      (λ q.
      let z = eqb-true (run_refusal t by im' e) 0 q in
      let a = event_accepted t by im' e z in
      let c = said t by.grants im Pass pass in
      run_no_clash e f a.0 (stored a.0) (field_right a.2) c.3 (rw (event_runs t by im' e z) at n))
      (λ q.
      let ne = eqb-false (run_refusal t by im' e) 0 q in
      let z : ◌≡◌ {A = ℕ} 0 6 = rw (event_untouched t by im' e ne) at n in
      omega arith)
