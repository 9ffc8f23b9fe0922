-- Demand 3 over the call `run_event`: where an access goes in a passed rack, and how many bridges it crosses.
use Rattle.std.specs.Prelude.{◌≡◌, ℕ, ◌+◌, ◌≤◌, eqb, Ok}
use Rattle.std.proofs.Math.Path.{refl}
use Rattle.std.proofs.Math.Bool.{true, false}
use Rattle.std.proofs.Common.{inl, inr, eqb-true}
use native.Mathlib.Omega.{arith}
use Rattle.std.proofs.lemmas.Bool.{eqb-false}
use Rattle.rack.specs.laws.Bools.{tested}
use Rattle.rack.specs.definitions.Tree.{Tree, depth, greatest_depth}
use Rattle.rack.specs.definitions.Stored.{Stored}
use Rattle.rack.specs.definitions.Refusal.{rack_refusal}
use Rattle.seat.specs.definitions.Grants.{Acting, may_write}
use Rattle.register_image.specs.definitions.Image.{Images, Result}
use Rattle.register_laws.specs.laws.Accepted as images
use Rattle.claim_agent.specs.declared.Space.TheVariants as space
use Rattle.claim_laws.specs.definitions.Same.{SameButStatus}
use Rattle.route_bus.specs.declared.Access.{Access}
use Rattle.route_bus.specs.declared.End.{End}
use Rattle.route_bus.specs.declared.End.TheVariants as end
use Rattle.route_bus.specs.declared.Route.{Route}
use Rattle.route.specs.definitions.Route.{configure, access}
use Rattle.check_search.specs.definitions.Report.{Pass}
use Rattle.check_search.specs.definitions.Check.{check}
use Rattle.demand_passed.specs.laws.PassedRack.{access_goes, configure_goes, access_crossings, configure_crossings}
use Rattle.file_record.specs.declared.Event.{Event}
use Rattle.file_record.specs.declared.Event.TheVariants.{Write, Read, Memory, Io, Check, Seat}
use Rattle.file_record.specs.definitions.Events.{event_wrong}
use Rattle.event_run.specs.declared.Answer.{Answer}
use Rattle.event_run.specs.declared.Answer.TheVariants.{Checked}
use Rattle.event_run.specs.definitions.Answers.{crossings_of}
use Rattle.event_run.specs.definitions.Run.{configuration, addressed, register_of, reached, ended_at, ended, event_run}
use Rattle.call_table.specs.definitions.Call.{run_refusal, ran, run_in, check_in}
use Rattle.demand_calls.specs.laws.Refusing.{field_right, event_untouched, event_runs, event_accepted}
use Rattle.demand_calls.specs.laws.Checking.{said, initiator}
use Rattle.demand_calls.specs.definitions.Events.{Fits, crossings, start_bus, Goes}
use Rattle.register_image.specs.definitions.Fixed.{lengths_wrong}

module _ (t : Tree) (by : Acting) (stored : rack_refusal t ≡ 0 → Stored t) (im im' : Images)
    (pass : check_in t by.grants im ≡ Ok (Checked Pass)) (same : SameButStatus t im im') where
  run_goes : (e : Event) → Fits e → rack_refusal t ≡ 0 → Stored t → event_wrong t e ≡ false → check t im ≡ Pass
      → lengths_wrong t im' ≡ false → Goes t by im' e (event_run t by im' e)
  unfolding event_run event_wrong
  run_goes (Write bus devfn register enables put) f ok st w p l =
      let x = configuration true bus devfn register enables put in
      (configure t im' x, refl, configure_goes t ok st im p im' same l x (refl, f))
  run_goes (Read bus devfn register) f ok st w p l =
      let x = configuration false bus devfn register 0 0 in
      (configure t im' x, refl, configure_goes t ok st im p im' same l x (refl, f))
  run_goes (Memory i direction a) f ok st w p l =
      let x = addressed space.Memory direction a in
      (access t im' x i, refl, access_goes t ok st im p im' same l x (inl (refl, f)) i (initiator t i direction w))
  run_goes (Io i direction a) f ok st w p l =
      let x = addressed space.Io direction a in
      (access t im' x i, refl, access_goes t ok st im p im' same l x (inr (refl, f)) i (initiator t i direction w))
  run_goes Check f ok st w p l = tt
  run_goes (Seat seat) f ok st w p l = tt

  -- 'In a passed rack, with the registers it passed with, status bits aside, every accepted configuration, memory or I/O access,
  -- whichever party starts it, is never driven, ends unclaimed, or ends at its one owner'
  pub event_goes : (e : Event) → Fits e → run_refusal t by im' e ≡ 0
      → (r : Result Answer) × (run_in t by im' e ≡ ran r) × Goes t by im' e r
  event_goes e f z =
      let a = event_accepted t by im' e z in
      let c = said t by.grants im Pass pass in
      (event_run t by im' e, event_runs t by im' e z, run_goes e f a.0 (stored a.0) (field_right a.2) c.3 (images.accepted t im' a.1).0)

-- what an access comes to carries the crossings of its route
ended_crossings : (t : Tree) (by : Acting) (im : Images) (x : Access) (c : ℕ) (e : End) → crossings_of (ended_at t by im x c e).answer ≡ c
unfolding ended_at reached register_of
ended_crossings t by im x c (end.Node g) =
    tested x.write (λ q. tested (may_write by g x.register) (λ m. rw (q, m)) (λ m. rw (q, m))) (λ q. rw q)
ended_crossings t by im x c (end.Owner g r o) = refl
ended_crossings t by im x c (end.Host o) = refl
ended_crossings t by im x c (end.Unclaimed k o) = refl
ended_crossings t by im x c (end.Clash k y z) = refl
ended_crossings t by im x c (end.Special k) = refl
ended_crossings t by im x c end.Silent = refl

module _ (t : Tree) (by : Acting) (stored : rack_refusal t ≡ 0 → Stored t) (im : Images) where
  routed : (x : Access) (o : Result Route) (n : ℕ) → o.answer.crossings ≤ n → crossings_of (ended t by x o).answer ≤ n
  routed x o n l = rw (ended_crossings t by o.after x o.answer.crossings o.answer.end) l

  run_crossings : (e : Event) → rack_refusal t ≡ 0 → Stored t → event_wrong t e ≡ false
      → crossings_of (event_run t by im e).answer ≤ depth t (start_bus t e) + greatest_depth t
  unfolding event_run event_wrong
  run_crossings (Write bus devfn register enables put) ok st w =
      let x = configuration true bus devfn register enables put in
      routed x (configure t im x) _ (configure_crossings t ok st im x)
  run_crossings (Read bus devfn register) ok st w =
      let x = configuration false bus devfn register 0 0 in routed x (configure t im x) _ (configure_crossings t ok st im x)
  run_crossings (Memory i direction a) ok st w =
      let x = addressed space.Memory direction a in
      routed x (access t im x i) _ (access_crossings t ok st im x i (initiator t i direction w))
  run_crossings (Io i direction a) ok st w =
      let x = addressed space.Io direction a in
      routed x (access t im x i) _ (access_crossings t ok st im x i (initiator t i direction w))
  run_crossings Check ok st w = omega arith
  run_crossings (Seat seat) ok st w = omega arith

  -- 'The crossings carried in its answer are at most the depth of the starting bus plus the greatest depth in the rack'; passed or not
  pub event_crossings : (e : Event) → crossings (run_in t by im e).answer ≤ depth t (start_bus t e) + greatest_depth t
  event_crossings e =
      tested (eqb (run_refusal t by im e) 0)
      (λ q.
      let z = eqb-true (run_refusal t by im e) 0 q in
      rw (event_runs t by im e z) (let a = event_accepted t by im e z in run_crossings e a.0 (stored a.0) (field_right a.2)))
      (λ q. rw (event_untouched t by im e (eqb-false (run_refusal t by im e) 0 q)) (omega arith))
