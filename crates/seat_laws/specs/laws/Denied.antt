-- 02, E1: a write is denied exactly where seat 0's would be stored and the register is below 40h and outside the grant; then its crossings
-- are the same and no image changes. A write that is granted ends as seat 0's.
use Rattle.std.proofs.Math.Path.{◌≡◌, refl, sym, ap}
use Rattle.std.proofs.Common.{◌∙◌, arith}
use Rattle.std.proofs.Math.Bool.{true}
use Rattle.std.specs.Prelude.{false, ℕ, ◌<◌, length}
use mathlib.Core.List.{List}
use Rattle.rack.specs.definitions.Tree.{Tree}
use Rattle.rack.specs.laws.Bools.{tested}
use Rattle.seat.specs.definitions.Grants.{Grants, Acting, acting, is_granted, may_write}
use Rattle.seat.specs.laws.Writing.{zero_may, may_not, may_granted}
use Rattle.register_image.specs.definitions.Image.{Images, Result}
use Rattle.bus_reset.specs.definitions.Store.{store_node}
use Rattle.route_bus.specs.declared.Access.{Access}
use Rattle.route_bus.specs.declared.End.{End}
use Rattle.route_bus.specs.declared.End.TheVariants as end
use Rattle.route_bus.specs.declared.Route.{Route}
use Rattle.route_bus.specs.definitions.Look.{found}
use Rattle.route.specs.definitions.Route.{configure}
use Rattle.route_laws.specs.definitions.Ends.{end_number, ends_at_node}
use Rattle.route_laws.specs.laws.Type0.{only_node}
use Rattle.event_run.specs.declared.Ending.TheVariants.{Stored, Denied}
use Rattle.event_run.specs.definitions.Answers.{answer_number}
use Rattle.seat_laws.specs.definitions.Denied.{Arrives, Denial}
use Rattle.event_run.specs.definitions.Run.{answers, register_of, reached, ended_at, ended, configured}

-- 2 and 10 are answers to accesses that reach a node, whoever acts
module _ (t : Tree) (by : Acting) (im : Images) (x : Access) (c : ℕ) where
  pub at_node : (e : End) (n : ℕ) → answer_number (ended_at t by im x c e).answer ≡ n → (end_number e ≡ n → ⊥) → ends_at_node e ≡ true
  unfolding ended_at
  at_node (end.Node g) n q ne = refl
  at_node (end.Owner g r o) n q ne = absurd (ne q)
  at_node (end.Host o) n q ne = absurd (ne q)
  at_node (end.Unclaimed k o) n q ne = absurd (ne q)
  at_node (end.Clash k y z) n q ne = absurd (ne q)
  at_node (end.Special k) n q ne = absurd (ne q)
  at_node end.Silent n q ne = absurd (ne q)

-- no end of a route has these numbers
pub not_ends : (e : End) → (end_number e ≡ 2 → ⊥) × (end_number e ≡ 10 → ⊥)
not_ends (end.Node g) = (λ q. omega arith, λ q. omega arith)
not_ends (end.Owner g r o) = (λ q. omega arith, λ q. omega arith)
not_ends (end.Host o) = (λ q. omega arith, λ q. omega arith)
not_ends (end.Unclaimed k o) = (λ q. omega arith, λ q. omega arith)
not_ends (end.Clash k y z) = (λ q. omega arith, λ q. omega arith)
not_ends (end.Special k) = (λ q. omega arith, λ q. omega arith)
not_ends end.Silent = (λ q. omega arith, λ q. omega arith)

module _ (t : Tree) (im : Images) (x : Access) where
  abbrev pub Reached : Type 0
  Reached = (gs : List ℕ) × (holder : ℕ) × (g : ℕ) × Arrives t im x gs holder g

  reaches : ends_at_node (configure t im x).answer.end ≡ true → Reached
  reaches i =
      let s = only_node t im x i in
      (s.0, s.1, found t im s.1 x.devfn, record { path = s.2; node = refl; some = s.3; route = s.4 })

  module _ {gs : List ℕ} {holder g : ℕ} (a : Arrives t im x gs holder g) (by : Acting) where
    -- the write that reached a node is stored or denied
    module _ (write : x.write ≡ true) where
      pub is_stored : may_write by g x.register ≡ true
          → configured t by im x ≡ answers (length gs) Stored (store_node t im g x.register x.enables x.«data»)
      unfolding ended_at reached register_of
      is_stored m = ap (ended t by x) a.route ∙ rw (write, m)

      pub is_denied : may_write by g x.register ≡ false → configured t by im x ≡ answers (length gs) Denied im
      unfolding ended_at reached
      is_denied m = ap (ended t by x) a.route ∙ rw (write, m)

      -- exactly there: the register is below 40h and the bit is not granted
      pub denies : (by.seat ≡ 0 → ⊥) → x.register < 64 → is_granted by g x.register ≡ false → Denial t by im x
      unfolding ended_at reached register_of
      denies other low out =
          record {
            bridges = gs;
            holder = holder;
            node = g;
            arrives = a;
            write = write;
            seat = other;
            low = low;
            outside = out;
            denied = is_denied (may_granted by g x.register other low ∙ out);
            stores = λ h. stored_by_0 h;
          }
        where
          stored_by_0 : (h : Grants)
              → configured t (acting h 0) im x ≡ answers (length gs) Stored (store_node t im g x.register x.enables x.«data»)
          stored_by_0 h = ap (ended t (acting h 0) x) a.route ∙ rw (write, zero_may (acting h 0) g x.register refl)

    -- a denied access was a write outside the grant
    not_may : answer_number (configured t by im x).answer ≡ 10 → (x.write ≡ true) × (may_write by g x.register ≡ false)
    unfolding ended_at reached register_of
    not_may n =
        let q = sym (ap (λ (o : Result Route). answer_number (ended t by x o).answer) a.route) ∙ n in
        tested x.write
        (λ w.
        tested (may_write by g x.register) (λ m. let z : ◌≡◌ {A = ℕ} 2 10 = rw (w, m) at q in absurd (omega arith)) (λ m. (w, m)))
        (λ w. let z : ◌≡◌ {A = ℕ} 1 10 = rw w at q in absurd (omega arith))

  -- seat 0's access that is stored has reached a node, as a write
  pub would_store : (g : Grants) → answer_number (configured t (acting g 0) im x).answer ≡ 2 → (x.write ≡ true) × Reached
  unfolding ended_at reached register_of
  would_store g n =
      let o = configure t im x in
      let r = reaches (at_node t (acting g 0) o.after x o.answer.crossings o.answer.end 2 n (not_ends o.answer.end).0) in
      (stored_write r.3, r)
    where
      stored_write : {gs : List ℕ} {holder k : ℕ} → Arrives t im x gs holder k → x.write ≡ true
      stored_write a =
          let q = sym (ap (λ (o : Result Route). answer_number (ended t (acting g 0) x o).answer) a.route) ∙ n in
          tested x.write (λ w. w) (λ w. let z : ◌≡◌ {A = ℕ} 1 2 = rw w at q in absurd (omega arith))

  -- number 10 is given only so
  pub only_denied : (by : Acting) → answer_number (configured t by im x).answer ≡ 10 → Denial t by im x
  only_denied by n =
      let o = configure t im x in
      let r = reaches (at_node t by o.after x o.answer.crossings o.answer.end 10 n (not_ends o.answer.end).1) in
      let d = not_may r.3 by n in
      let m = may_not by r.2 x.register d.1 in
      denies r.3 by d.0 m.0 m.1 m.2
