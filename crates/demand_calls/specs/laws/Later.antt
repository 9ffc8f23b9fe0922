-- Demand 3 over events one after another: those that write no register leave a passed rack passed, whatever status bits they set.
use Rattle.std.specs.Prelude.{◌≡◌, ◌&&◌, ℕ, eqb}
use Rattle.std.proofs.Math.Path.{refl}
use Rattle.std.proofs.Common.{ap, ◌∙◌, true≢false, eqb-true}
use Rattle.std.proofs.Math.Bool.{true, false, and-false}
use mathlib.Core.List.{List, [], ◌∷◌}
use Rattle.std.proofs.lemmas.Bool.{eqb-false}
use Rattle.rack.specs.laws.Bools.{tested}
use Rattle.rack.specs.definitions.Tree.{Tree}
use Rattle.rack.specs.definitions.Stored.{Stored}
use Rattle.seat.specs.definitions.Grants.{Grants, Acting, acting}
use Rattle.register_image.specs.definitions.Image.{Images}
use Rattle.register_image.specs.definitions.Fixed.{lengths_wrong}
use Rattle.claim_agent.specs.declared.Space.TheVariants as space
use Rattle.claim_laws.specs.laws.Apart.{same_refl, same_trans, same_right}
use Rattle.claim_laws.specs.definitions.Same.{SameButStatus}
use Rattle.route_bus.specs.declared.Access.{Access}
use Rattle.route_bus.specs.declared.End.{End}
use Rattle.route_bus.specs.declared.End.TheVariants as end
use Rattle.route_bus.specs.definitions.Cross.{is_configuration}
use Rattle.route.specs.definitions.Route.{configure, access}
use Rattle.route_laws.specs.definitions.Ends.{ends_at_node}
use Rattle.route_laws.specs.laws.Arrives.{node_fails, access_none, cycle_none}
use Rattle.route_laws.specs.laws.Changes.{access_same, configure_same}
use Rattle.file_record.specs.declared.Event.{Event}
use Rattle.file_record.specs.declared.Event.TheVariants.{Write, Read, Memory, Io, Check, Seat}
use Rattle.event_run.specs.definitions.Run.{configuration, addressed, register_of, reached, ended_at, accessed, event_run}
use Rattle.call_table.specs.definitions.Call.{run_refusal, run_in}
use Rattle.demand_calls.specs.laws.Refusing.{event_untouched, event_runs}
use Rattle.demand_calls.specs.definitions.Events.{WritesNone, Act, AllWriteNone, after_all}

-- what an access leaves, where it writes no register: the images of its route
module _ (t : Tree) (by : Acting) (im : Images) (x : Access) (c : ℕ) where
  kept_after : (e : End) → (x.write && ends_at_node e) ≡ false → (ended_at t by im x c e).after ≡ im
  unfolding ended_at reached register_of
  kept_after (end.Node g) off = tested x.write (λ q. absurd (true≢false (rw q at off))) (λ q. rw q)
  kept_after (end.Owner g r o) off = refl
  kept_after (end.Host o) off = refl
  kept_after (end.Unclaimed k o) off = refl
  kept_after (end.Clash k y z) off = refl
  kept_after (end.Special k) off = refl
  kept_after end.Silent off = refl

module _ (t : Tree) (st : Stored t) where
  module _ (by : Acting) (im : Images) (right : lengths_wrong t im ≡ false) where
    accessed_same : (x : Access) (i : ℕ) → is_configuration x.space ≡ false → SameButStatus t im (accessed t by im x i).after
    accessed_same x i other =
        let o = access t im x i in
        rw (kept_after t by o.after x o.answer.crossings o.answer.end (ap (λ b. x.write && b) (access_none ends_at_node node_fails refl t x other im i) ∙ and-false x.write))
        (access_same t st x im right i)

    run_same : (e : Event) → WritesNone e → SameButStatus t im (event_run t by im e).after
    unfolding event_run
    run_same (Write bus devfn register enables put) cycle =
        let x = configuration true bus devfn register enables put in
        let o = configure t im x in
        rw (kept_after t by o.after x o.answer.crossings o.answer.end (cycle_none t im x cycle)) (configure_same t st x im right)
    run_same (Read bus devfn register) none =
        let x = configuration false bus devfn register 0 0 in
        let o = configure t im x in
        rw (kept_after t by o.after x o.answer.crossings o.answer.end refl) (configure_same t st x im right)
    run_same (Memory i direction a) none = accessed_same (addressed space.Memory direction a) i refl
    run_same (Io i direction a) none = accessed_same (addressed space.Io direction a) i refl
    run_same Check none = same_refl t im
    run_same (Seat seat) none = same_refl t im

    -- refused or not
    pub event_same : (e : Event) → WritesNone e → SameButStatus t im (run_in t by im e).after
    event_same e none =
        tested (eqb (run_refusal t by im e) 0)
        (λ q. rw (event_runs t by im e (eqb-true (run_refusal t by im e) 0 q)) (run_same e none))
        (λ q. rw (event_untouched t by im e (eqb-false (run_refusal t by im e) 0 q)) (same_refl t im))

  pub events_same : (g : Grants) (acts : List Act) (im : Images) → lengths_wrong t im ≡ false → AllWriteNone acts
      → SameButStatus t im (after_all t g acts im)
  unfolding after_all AllWriteNone
  events_same g [] im right none = same_refl t im
  events_same g (a ∷ acts) im right none =
      let s = event_same (acting g a.seat) im right a.event none.0 in
      same_trans s (events_same g acts (run_in t (acting g a.seat) im a.event).after (same_right s right) none.1)
