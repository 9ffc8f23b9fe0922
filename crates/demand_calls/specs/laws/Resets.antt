-- What request E5 says of events over the calls, proved.
use Rattle.std.specs.Prelude.{◌≡◌, List, ℕ, eqb, length, Ok}
use Rattle.std.proofs.Math.Path.{refl, ap}
use Rattle.std.proofs.Math.Bool.{true, false}
use Rattle.std.proofs.Math.Logic.{⊎_elim}
use Rattle.std.proofs.Common.{arith, eqb-true}
use Rattle.std.proofs.lemmas.Bool.{eqb-false}
use Rattle.rack.specs.definitions.Tree.{Tree}
use Rattle.rack.specs.definitions.Stored.{Stored}
use Rattle.rack.specs.definitions.Refusal.{rack_refusal}
use Rattle.rack.specs.definitions.First.{◌when◌, ◌or◌, unless}
use Rattle.rack.specs.laws.Bools.{tested}
use Rattle.rack.specs.laws.FirstLaws.{or_none}
use Rattle.rack_laws.specs.laws.Sound.{not_host}
use Rattle.seat.specs.definitions.Grants.{Grants, Acting, acting}
use Rattle.register_image.specs.definitions.Image.{Images}
use Rattle.register_image.specs.definitions.Fixed.{lengths_wrong}
use Rattle.bus_reset.specs.definitions.Agreement.{image_refusal}
use Rattle.register_laws.specs.laws.Accepted.{agreed}
use Rattle.register_laws.specs.laws.Held.{store_accepted, reset_accepted}
use Rattle.claim_agent.specs.declared.Space.TheVariants as space
use Rattle.claim_laws.specs.definitions.Same.{SameButStatus}
use Rattle.claim_laws.specs.laws.Apart.{same_refl}
use Rattle.route_bus.specs.declared.Access.{Access}
use Rattle.route_bus.specs.declared.Outcome.{Outcome}
use Rattle.route_bus.specs.declared.Route.{Route}
use Rattle.route_bus.specs.definitions.Look.{found}
use Rattle.route.specs.definitions.Route.{configure}
use Rattle.route_laws.specs.laws.HeldBus.{held_unclaimed, held_type1}
use Rattle.check_search.specs.definitions.Check.{check}
use Rattle.demand_passed.specs.laws.Ways.{found_selected}
use Rattle.file_record.specs.definitions.Events.{event_in}
use Rattle.file_record.specs.definitions.Load.{rack_alone}
use Rattle.file_record.specs.laws.LoadLaws.{alone_stored}
use Rattle.file_record.specs.declared.Event.{Event}
use Rattle.file_record.specs.declared.Event.TheVariants.{Write, Read, Memory, Io, Check, Seat}
use Rattle.event_run.specs.declared.Ending.TheVariants.{Unclaimed, Silent}
use Rattle.event_run.specs.declared.Answer.TheVariants.{Ended}
use Rattle.event_run.specs.definitions.Answers.{answer_number}
use Rattle.event_run.specs.definitions.Run.{configuration, addressed, answers, ended_at, configured, event_run}
use Rattle.event_laws.specs.definitions.Stores.{Stores}
use Rattle.event_laws.specs.laws.Accepted as runs
use Rattle.event_laws.specs.laws.Stores.{stores}
use Rattle.event_laws.specs.laws.Written.{configured_stored, configured_otherwise, accessed_same, read_not_stored, access_not_stored, held_silent}
use Rattle.call_table.specs.definitions.Call.{refusal_by, store_refusal, run_refusal, stored_in, ran, run_in}
use Rattle.muzgante.specs.definitions.Called.{rack_run, reset_refusal, rack_reset}
use Rattle.demand_calls.specs.definitions.Resets.{StoredAt, HeldInitiator, ToHeld, ToHeldBus, Resets}
use Rattle.demand_calls.specs.laws.Refusing as refusing
use Rattle.demand_calls.specs.laws.Refusing.{write_stores, event_runs, event_accepted}
use Rattle.demand_calls.specs.laws.CRefusing.{run_refuses}
use Rattle.demand_calls.specs.laws.CGoing.{handed, run_none}
use Rattle.demand_calls.specs.laws.Numbered.{checked_number}

module _ (t : Tree) (by : Acting) (ok : rack_refusal t ≡ 0) (st : Stored t) (im : Images) (sound : image_refusal t im ≡ 0) where
  -- a configuration access that comes to a held bus
  configured_held : (x : Access) → x.space ≡ space.Configuration → (gs : List ℕ) (holder : ℕ) → ToHeld t im x gs holder
      → (o : Outcome) × ((configured t by im x).answer ≡ Ended (length gs) (Unclaimed holder o))
  unfolding ended_at
  configured_held x config gs holder h =
      let u = ⊎_elim (λ w. held_unclaimed t im x ok w.0 st gs holder w.1 h.0)
      (λ w. held_type1 t im x ok (agreed t im sound) config st gs holder w h.0) h.1 in
      (u.0, ap (λ (r : Route). (ended_at t by (configure t im x).after x r.crossings r.end).answer) u.1)

  run_stored : (e : Event) → answer_number (event_run t by im e).answer ≡ 2
      → (gs : List ℕ) × (holder : ℕ) × (g : ℕ) × StoredAt t im e gs holder g (event_run t by im e).after
  unfolding event_run
  run_stored (Write bus devfn register enables put) q =
      let s = configured_stored t by ok st im sound (configuration true bus devfn register enables put) q in
      (s.0, s.1, found t im s.1 devfn, (record { path = s.2; owner = found_selected t im s.1 devfn s.3 }, s.4))
  run_stored (Read bus devfn register) q = absurd (read_not_stored t by im (configuration false bus devfn register 0 0) refl q)
  run_stored (Memory i direction a) q = absurd (access_not_stored t by im (addressed space.Memory direction a) i refl q)
  run_stored (Io i direction a) q = absurd (access_not_stored t by im (addressed space.Io direction a) i refl q)
  run_stored Check q = absurd (checked_number (check t im) q (λ z. omega arith) (λ z. omega arith))
  run_stored (Seat seat) q = absurd (omega (arith, q))

  run_otherwise : (e : Event) → (answer_number (event_run t by im e).answer ≡ 2 → ⊥) → SameButStatus t im (event_run t by im e).after
  unfolding event_run
  run_otherwise (Write bus devfn register enables put) ne =
      configured_otherwise t by ok st im sound (configuration true bus devfn register enables put) ne
  run_otherwise (Read bus devfn register) ne = configured_otherwise t by ok st im sound (configuration false bus devfn register 0 0) ne
  run_otherwise (Memory i direction a) ne = accessed_same t by ok st im sound (addressed space.Memory direction a) i refl
  run_otherwise (Io i direction a) ne = accessed_same t by ok st im sound (addressed space.Io direction a) i refl
  run_otherwise Check ne = same_refl t im
  run_otherwise (Seat seat) ne = same_refl t im

  run_silent : (e : Event) → HeldInitiator t im e → event_run t by im e ≡ answers 0 Silent im
  unfolding event_run
  run_silent (Memory i direction a) h =
      held_silent t by ok st im sound (addressed space.Memory direction a) i h.0 (not_host t ok i h.0) h.1
  run_silent (Io i direction a) h =
      held_silent t by ok st im sound (addressed space.Io direction a) i h.0 (not_host t ok i h.0) h.1
  run_silent (Write bus devfn register enables put) h = absurd h
  run_silent (Read bus devfn register) h = absurd h
  run_silent Check h = absurd h
  run_silent (Seat seat) h = absurd h

  run_unclaimed : (e : Event) (gs : List ℕ) (holder : ℕ) → ToHeldBus t im e gs holder
      → (o : Outcome) × ((event_run t by im e).answer ≡ Ended (length gs) (Unclaimed holder o))
  unfolding event_run
  run_unclaimed (Write bus devfn register enables put) gs holder h = configured_held (configuration true bus devfn register enables put) refl gs holder h
  run_unclaimed (Read bus devfn register) gs holder h = configured_held (configuration false bus devfn register 0 0) refl gs holder h
  run_unclaimed (Memory i direction a) gs holder h = absurd h
  run_unclaimed (Io i direction a) gs holder h = absurd h
  run_unclaimed Check gs holder h = absurd h
  run_unclaimed (Seat seat) gs holder h = absurd h

-- an accepted event over a decoded rack, or over rack bytes
pub event_resets : (t : Tree) (by : Acting) → (rack_refusal t ≡ 0 → Stored t) → (im : Images) (e : Event) → run_refusal t by im e ≡ 0
    → Resets t im e (run_in t by im e)
event_resets t by stored im e z =
    let a = event_accepted t by im e z in
    let st = stored a.0 in
    rw (event_runs t by im e z)
    (record {
      stored = run_stored t by a.0 st im a.1 e;
      otherwise = run_otherwise t by a.0 st im a.1 e;
      silent = λ h. ap ran (run_silent t by a.0 st im a.1 e h);
      unclaimed = λ gs holder h.
          let u = run_unclaimed t by a.0 st im a.1 e gs holder h in
          (u.0, ap Ok u.1);
    })

-- accepted images stay accepted over an accepted event
pub event_agrees : (t : Tree) (by : Acting) → (rack_refusal t ≡ 0 → Stored t) → (im : Images) (e : Event) → run_refusal t by im e ≡ 0
    → image_refusal t (run_in t by im e).after ≡ 0
event_agrees t by stored im e z =
    let a = event_accepted t by im e z in
    rw (event_runs t by im e z) (runs.event_accepted t (stored a.0) by im a.1 e)

module _ (t : Tree) (g : Grants) (stored : rack_refusal t ≡ 0 → Stored t) (im : Images) (i register enables put : ℕ)
    (z : refusal_by t g im (store_refusal t i register enables) 0 ≡ 0) where
  -- a direct write
  pub write_resets : Stores t im i register enables put (stored_in t g im i register enables put)
  write_resets =
      let a = refusing.accepted t g im (store_refusal t i register enables) 0 z in
      rw (write_stores t g im i register enables put z) (stores t a.0 (stored a.0) im a.1 i register enables put)

  pub write_agrees : image_refusal t (stored_in t g im i register enables put) ≡ 0
  write_agrees =
      let a = refusing.accepted t g im (store_refusal t i register enables) 0 z in
      rw (write_stores t g im i register enables put z) (store_accepted t im (stored a.0) i register enables put a.1)

-- rack_run
module _ (b : List ℕ) (seat : ℕ) (event : List ℕ) (im : Images) (c : (rack_run b seat event im).code ≡ 0) where
  alone : rack_refusal (rack_alone b).tree ≡ 0 → Stored (rack_alone b).tree
  alone q = alone_stored b ((run_refuses b seat event im).accepted c).0

  pub c_run_resets : Resets (rack_alone b).tree im (event_in event 0)
      (run_in (rack_alone b).tree (acting (rack_alone b).grants seat) im (event_in event 0))
  c_run_resets = event_resets (rack_alone b).tree (acting (rack_alone b).grants seat) alone im (event_in event 0) (run_none b seat event im c)

  pub c_run_agrees : image_refusal (rack_alone b).tree (rack_run b seat event im).after ≡ 0
  c_run_agrees =
      rw (handed b seat event im c)
      (event_agrees (rack_alone b).tree (acting (rack_alone b).grants seat) alone im (event_in event 0) (run_none b seat event im c))

-- rack_reset and rack_open
pub c_reset_agrees : (b : List ℕ) (im : Images) → (rack_reset b im).code ≡ 0 → image_refusal (rack_alone b).tree (rack_reset b im).after ≡ 0
unfolding rack_reset unless
c_reset_agrees b im c =
    let n = reset_refusal b im in
    tested (eqb n 0)
    (λ q.
    let s = or_none (rack_alone b).refusal (11 when lengths_wrong (rack_alone b).tree im or 14 when (rack_alone b).grants.wrong) (eqb-true n 0 q) in
    let right : lengths_wrong (rack_alone b).tree im ≡ false =
    tested (lengths_wrong (rack_alone b).tree im)
    (λ w. let f : ◌≡◌ {A = ℕ} 11 0 = rw w at s.1 in absurd (omega arith)) (λ w. w) in
    rw q (reset_accepted (rack_alone b).tree (alone_stored b s.0) im right))
    (λ q. absurd (eqb-false n 0 q (rw q at c)))
