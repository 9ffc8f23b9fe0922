-- 02, E1 over the call `run_event`: which writes are denied, and what a seat other than 0 cannot change.
use Rattle.event_run.specs.declared.Answer.{Answer}
use Rattle.std.proofs.Math.Path.{◌≡◌, refl, sym, ap}
use Rattle.std.proofs.Common.{◌∙◌, true≢false}
use Rattle.std.proofs.Math.Bool.{true, false}
use Rattle.std.proofs.lemmas.Bool.{false≢true}
use mathlib.Core.List.{List, [], ◌∷◌}
use Rattle.std.specs.Prelude.{ℕ, eqb, length}
use native.Mathlib.Omega.{arith}
use borrow.Author.Tests.{eqb-true, eqb-false}
use Rattle.rack.specs.laws.Bools.{tested}
use Rattle.rack.specs.definitions.Tree.{Tree}
use Rattle.rack.specs.definitions.Stored.{Stored}
use Rattle.rack.specs.definitions.Refusal.{rack_refusal}
use Rattle.seat.specs.definitions.Grants.{Grants, Acting, acting}
use Rattle.seat.specs.laws.Writing.{zero_may, may_granted}
use Rattle.seat_laws.specs.definitions.Kept.{Kept}
use Rattle.seat_laws.specs.definitions.Denied.{Arrives}
use Rattle.seat_laws.specs.laws.Kept.{kept_refl, kept_trans}
use Rattle.seat_laws.specs.laws.Events.{event_kept}
use Rattle.seat_laws.specs.laws.Denied.{at_node, not_ends, is_stored, is_denied, would_store, only_denied}
use Rattle.register_image.specs.definitions.Image.{Images, Result}
use Rattle.claim_agent.specs.declared.Space.TheVariants as space
use Rattle.route_bus.specs.declared.Access.{Access}
use Rattle.route_bus.specs.declared.End.{End}
use Rattle.route_bus.specs.definitions.Cross.{is_configuration}
use Rattle.route.specs.definitions.Route.{access}
use Rattle.route_laws.specs.definitions.Ends.{end_number, ends_at_node}
use Rattle.route_laws.specs.laws.Arrives.{node_fails, access_none}
use Rattle.check_search.specs.definitions.Check.{check}
use Rattle.demand_passed.specs.laws.Ways.{found_selected}
use Rattle.file_record.specs.declared.Event.{Event}
use Rattle.file_record.specs.declared.Event.TheVariants.{Write, Read, Memory, Io, Check, Seat}
use Rattle.event_run.specs.declared.Ending.TheVariants.{Denied}
use Rattle.event_run.specs.definitions.Answers.{answer_number}
use Rattle.event_run.specs.definitions.Run.{configuration, addressed, answers, accessed, event_run}
use Rattle.call_table.specs.definitions.Call.{Reply, run_refusal, ran, run_in}
use Rattle.demand_calls.specs.definitions.Events.{reply_number, crossings, after_all, all_by, AtOwner, DeniedWrite, denied_reply, Would, WouldStore}
use Rattle.demand_calls.specs.laws.Numbered.{checked_number}
use Rattle.demand_calls.specs.laws.Refusing.{field_right, event_untouched, event_runs, event_accepted}

-- a node that was reached is the one of that device number, function 0
owns : (t : Tree) (im : Images) (x : Access) {gs : List ℕ} {holder g : ℕ} → Arrives t im x gs holder g → AtOwner t im x gs holder g
owns t im x {gs} {holder} {g} a =
    record { path = a.path; owner = rw (← a.node) (found_selected t im holder x.devfn (λ z. a.some (sym a.node ∙ z))) }

module _ (t : Tree) (by : Acting) (im : Images) where
  -- a memory or I/O access has neither number
  accessed_not : (n : ℕ) → ((e : End) → end_number e ≡ n → ⊥) → (x : Access) (i : ℕ) → is_configuration x.space ≡ false
      → answer_number (accessed t by im x i).answer ≡ n → ⊥
  accessed_not n none x i other q =
      let o = access t im x i in
      true≢false
      (sym (at_node t by o.after x o.answer.crossings o.answer.end n q (none o.answer.end))
      ∙ access_none ends_at_node node_fails refl t x other im i)

  run_denied : (e : Event) → answer_number (event_run t by im e).answer ≡ 10
      → (gs : List ℕ) × (holder : ℕ) × (g : ℕ) × DeniedWrite t by im e gs holder g × (event_run t by im e ≡ answers (length gs) Denied im)
  unfolding event_run
  run_denied (Write bus devfn register enables put) n =
      let x = configuration true bus devfn register enables put in
      let d = only_denied t im x by n in
      (d.bridges, d.holder, d.node, (owns t im x d.arrives, record { seat = d.seat; low = d.low; lacks = d.outside }), d.denied)
  run_denied (Read bus devfn register) n =
      absurd (false≢true (only_denied t im (configuration false bus devfn register 0 0) by n).write)
  run_denied (Memory i direction a) n = absurd (accessed_not 10 (λ e. (not_ends e).1) (addressed space.Memory direction a) i refl n)
  run_denied (Io i direction a) n = absurd (accessed_not 10 (λ e. (not_ends e).1) (addressed space.Io direction a) i refl n)
  run_denied Check n = absurd (checked_number (check t im) n (λ z. omega arith) (λ z. omega arith))
  run_denied (Seat seat) n = let z : ◌≡◌ {A = ℕ} 11 10 = n in absurd (omega arith)

  -- 10 is the number of a denied write
  pub event_denied : (e : Event) → reply_number (run_in t by im e).answer ≡ 10
      → (gs : List ℕ) × (holder : ℕ) × (g : ℕ) × DeniedWrite t by im e gs holder g × (run_in t by im e ≡ denied_reply im (length gs))
  event_denied e n =
      tested (eqb (run_refusal t by im e) 0)
      (λ q.
      let r = event_runs t by im e (eqb-true (run_refusal t by im e) 0 q) in
      let s = run_denied e (rw r at n) in
      (s.0, s.1, s.2, s.3, r ∙ ap ran s.4))
      (λ q.
      let ne = eqb-false (run_refusal t by im e) 0 q in
      let z : ◌≡◌ {A = ℕ} 0 10 = rw (event_untouched t by im e ne) at n in
      absurd (omega arith))

  -- a write of seat 0 that is stored has come to a node
  module _ (bus devfn register enables put : ℕ) where
    abbrev write : Event
    write = Write bus devfn register enables put

    abbrev x : Access
    x = configuration true bus devfn register enables put

    abbrev zero : Acting
    zero = acting by.grants 0

    from_route : run_in t zero im write ≡ ran (event_run t zero im write) → x.write ≡ true
        → {gs : List ℕ} {holder g : ℕ} → Arrives t im x gs holder g → Would t by im bus devfn register enables put
    unfolding event_run
    from_route r w {gs} {holder} {g} a = (
      gs,
      holder,
      g,
      owns t im x a,
      ap (λ (q : Result (Reply Answer)). crossings q.answer) (r ∙ ap ran (is_stored t im x a zero w (zero_may zero g register refl))),
      λ ok o. event_runs t by im write ok ∙ ap ran (is_denied t im x a by w (may_granted by g register o.seat o.low ∙ o.lacks)),
      λ ok m.
          event_runs t by im write ok
          ∙ ap ran (is_stored t im x a by w m ∙ sym (is_stored t im x a zero w (zero_may zero g register refl)))
          ∙ sym r,
    )

    event_would : reply_number (run_in t (acting by.grants 0) im (Write bus devfn register enables put)).answer ≡ 2
        → Would t by im bus devfn register enables put
    unfolding event_run
    event_would n =
        tested (eqb (run_refusal t zero im write) 0)
        (λ q.
        let r = event_runs t zero im write (eqb-true (run_refusal t zero im write) 0 q) in
        let s = would_store t im x by.grants (rw r at n) in
        from_route r s.0 s.1.3)
        (λ q.
        let ne = eqb-false (run_refusal t zero im write) 0 q in
        let z : ◌≡◌ {A = ℕ} 0 2 = rw (event_untouched t zero im write ne) at n in
        absurd (omega arith))

-- only a write is stored
module _ (t : Tree) (by : Acting) (im : Images) where
  run_stores : (e : Event) → reply_number (run_in t (acting by.grants 0) im e).answer ≡ 2
      → answer_number (event_run t (acting by.grants 0) im e).answer ≡ 2 → WouldStore t by im e
  unfolding event_run
  run_stores (Write bus devfn register enables put) r n = event_would t by im bus devfn register enables put r
  run_stores (Read bus devfn register) r n =
      absurd (false≢true (would_store t im (configuration false bus devfn register 0 0) by.grants n).0)
  run_stores (Memory i direction a) r n =
      accessed_not t (acting by.grants 0) im 2 (λ e. (not_ends e).0) (addressed space.Memory direction a) i refl n
  run_stores (Io i direction a) r n =
      accessed_not t (acting by.grants 0) im 2 (λ e. (not_ends e).0) (addressed space.Io direction a) i refl n
  run_stores Check r n = checked_number (check t im) n (λ z. omega arith) (λ z. omega arith)
  run_stores (Seat seat) r n = let z : ◌≡◌ {A = ℕ} 11 2 = n in omega arith

  pub event_stores : (e : Event) → reply_number (run_in t (acting by.grants 0) im e).answer ≡ 2 → WouldStore t by im e
  event_stores e n =
      let zero = acting by.grants 0 in
      tested (eqb (run_refusal t zero im e) 0)
      (λ q. run_stores e n (rw (event_runs t zero im e (eqb-true (run_refusal t zero im e) 0 q)) at n))
      (λ q.
      let z : ◌≡◌ {A = ℕ} 0 2 = rw (event_untouched t zero im e (eqb-false (run_refusal t zero im e) 0 q)) at n in
      absurd (omega arith))

-- what a seat other than 0 leaves after any list of events, refused ones and seat events among them
module _ (t : Tree) (stored : rack_refusal t ≡ 0 → Stored t) where
  pub seat_kept : (by : Acting) → (by.seat ≡ 0 → ⊥) → (im : Images) (e : Event) → Kept t by im (run_in t by im e).after
  seat_kept by other im e =
      tested (eqb (run_refusal t by im e) 0)
      (λ q.
      let z = eqb-true (run_refusal t by im e) 0 q in
      let a = event_accepted t by im e z in
      rw (event_runs t by im e z)
      (event_kept t (stored a.0) by other im a.1 e (field_right a.2)))
      (λ q. rw (event_untouched t by im e (eqb-false (run_refusal t by im e) 0 q)) (kept_refl t by im))

  pub seat_keeps : (g : Grants) (seat : ℕ) → (seat ≡ 0 → ⊥) → (es : List Event) (im : Images)
      → Kept t (acting g seat) im (after_all t g (all_by seat es) im)
  unfolding after_all all_by
  seat_keeps g seat other [] im = kept_refl t (acting g seat) im
  seat_keeps g seat other (e ∷ es) im =
      kept_trans (seat_kept (acting g seat) other im e) (seat_keeps g seat other es (run_in t (acting g seat) im e).after)
