-- What the check says: it passes exactly where `OneClaimant` holds, and what it shows is the first in document 01's order; and the same with
-- held nodes left out. Both are one search, over other claimants and other drivers.
use Rattle.std.proofs.Math.Path.{◌≡◌, refl, ap, subst}
use Rattle.std.proofs.Common.{sym, ◌∙◌, inl, inr, eq-or-lt_of_le}
use Rattle.std.specs.Prelude.{true, eqb, length}
use Rattle.std.proofs.lemmas.Bool.{false≢true}
use Rattle.std.proofs.Math.Logic.{⊎_elim}
use mathlib.Core.List.{List, [], ◌∷◌}
use Prim.Native.Nat.{ℕ, zero, suc, ◌+◌, ◌-◌, ◌≤◌, ◌<◌}
use native.Mathlib.Omega.{arith}
use borrow.Author.Tests.{eqb-true, eq-eqb}
use Rattle.rack.specs.definitions.Node.{is_bridge}
use Rattle.rack.specs.laws.Bools.{tested}
use Rattle.rack.specs.definitions.Tree.{Tree, IsBus, host, parent_of, nodes_from, agents, bridges_from, buses, OnBus}
use Rattle.rack.specs.definitions.Refusal.{rack_refusal}
use Rattle.register_image.specs.definitions.Image.{Images}
use Rattle.bus_reset.specs.definitions.Agreement.{image_refusal}
use Rattle.register_laws.specs.laws.Accepted.{agreed}
use Rattle.claim_agent.specs.declared.Space.{Space}
use Rattle.claim_agent.specs.declared.Space.TheVariants.{Memory, Io, Configuration}
use Rattle.claim_agent.specs.definitions.Space.{last_of}
use Rattle.claim_agent.specs.definitions.Claimants.{claimants, first_two}
use Rattle.check_search.specs.declared.Fault.{Fault}
use Rattle.check_search.specs.definitions.Report.{Report, Pass, fault}
use Rattle.check_search.specs.definitions.Check as checked
use Rattle.check_search.specs.definitions.Check.{first_in, first_from, shown, drivers_of, first_of, bus_report, check}
use Rattle.check_search.proofs.StretchLaws.{fewer_shown}
use Rattle.held_laws.specs.definitions.Others.{other_claimants, other_drivers, other_check}
use Rattle.held_laws.specs.laws.Others.{others_claim, at_most_one}
use Rattle.held_laws.specs.laws.OtherCheck.{check_others}
use Rattle.demand_passed.specs.laws.Firsts.{each_map, in_passes, in_pass, from_passes, from_pass, in_first, from_first}
use Rattle.demand_passed.specs.definitions.FirstFault.{Each, FirstOf, spaces, ClaimantsOf, DriversOf, Clear, ClearAt, ClearIn, ClearOn, FirstClash, FirstFault, FirstOther}
use Rattle.demand_passed.specs.definitions.OneClaimant.{OneClaimant, OneOther}

module _ (t : Tree) (who : ClaimantsOf) (drivers : DriversOf) where
  -- one driver, all drivers of a value, all values of a space, all spaces of a bus, all buses
  abbrev driven : ℕ → Space → ℕ → ℕ → Report
  driven bus space a driver = shown bus space a driver (first_two (who space bus driver a))

  abbrev at_value : ℕ → Space → ℕ → Report
  at_value bus space a = first_in (driven bus space a) (drivers bus space)

  abbrev in_space : ℕ → Space → Report
  in_space bus space = first_from (at_value bus space) (last_of space + 1 - first_of space) (first_of space)

  abbrev on_bus : ℕ → Report
  on_bus bus = first_in (in_space bus) spaces

  abbrev search : Report
  search = first_in on_bus (buses t)

  shown_clear : (bus : ℕ) (space : Space) (a driver : ℕ) (l : List ℕ) → shown bus space a driver (first_two l) ≡ Pass → length l ≤ 1
  unfolding shown
  shown_clear bus space a driver [] e = omega arith
  shown_clear bus space a driver (x ∷ []) e = omega arith
  shown_clear bus space a driver (x ∷ (y ∷ l)) e = let z : ◌≡◌ {A = ℕ} 0 1 = cc in absurd (omega arith)

  at_clear : (bus : ℕ) (space : Space) (a : ℕ) → at_value bus space a ≡ Pass → ClearAt who drivers bus space a
  at_clear bus space a e =
      each_map (λ d. driven bus space a d ≡ Pass) (Clear who drivers bus space a) (drivers bus space)
      (λ d. shown_clear bus space a d (who space bus d a))
      (in_passes (driven bus space a) (drivers bus space) e)

  clear_at : (bus : ℕ) (space : Space) (a : ℕ) → ClearAt who drivers bus space a → at_value bus space a ≡ Pass
  clear_at bus space a q =
      in_pass (driven bus space a) (drivers bus space)
      (each_map (Clear who drivers bus space a) (λ d. driven bus space a d ≡ Pass) (drivers bus space)
      (λ d. fewer_shown bus space a d (who space bus d a)) q)

  -- the last value of a space is not below the first
  span : (space : Space) → first_of space + (last_of space + 1 - first_of space) ≡ last_of space + 1
  span Memory = omega arith
  span Io = omega arith
  span Configuration = omega arith

  in_clear : (bus : ℕ) (space : Space) → in_space bus space ≡ Pass → ClearIn who drivers bus space
  in_clear bus space e a l m =
      at_clear bus space a
      (from_passes (at_value bus space) (last_of space + 1 - first_of space) (first_of space) e a l (omega (arith, span space)))

  clear_in : (bus : ℕ) (space : Space) → ClearIn who drivers bus space → in_space bus space ≡ Pass
  clear_in bus space q =
      from_pass (at_value bus space) (last_of space + 1 - first_of space) (first_of space)
      (λ a l m. clear_at bus space a (q a l (omega (arith, span space))))

  on_clear : (bus : ℕ) → on_bus bus ≡ Pass → ClearOn who drivers bus
  on_clear bus e =
      each_map (λ s. in_space bus s ≡ Pass) (ClearIn who drivers bus) spaces (in_clear bus) (in_passes (in_space bus) spaces e)

  clear_on : (bus : ℕ) → ClearOn who drivers bus → on_bus bus ≡ Pass
  clear_on bus q =
      in_pass (in_space bus) spaces (each_map (ClearIn who drivers bus) (λ s. in_space bus s ≡ Pass) spaces (clear_in bus) q)

  -- the search passes exactly where every bus is clear
  check_clear : search ≡ Pass → Each (ClearOn who drivers) (buses t)
  check_clear e = each_map (λ b. on_bus b ≡ Pass) (ClearOn who drivers) (buses t) on_clear (in_passes on_bus (buses t) e)

  clear_check : Each (ClearOn who drivers) (buses t) → search ≡ Pass
  clear_check q = in_pass on_bus (buses t) (each_map (ClearOn who drivers) (λ b. on_bus b ≡ Pass) (buses t) clear_on q)

  -- a search whose passes are clear
  clearer : {A : Type 0} (P Q : A → Type 0) (l : List A) (x : A) → ((w : A) → P w → Q w) → FirstOf P l x → FirstOf Q l x
  clearer P Q l x f r =
      record { before = r.before; after = r.after; split = r.split; clear = each_map P Q r.before f r.clear }

  record Shown (bus : ℕ) (space : Space) (a driver : ℕ) (l : List ℕ) (bus' : ℕ) (space' : Space) (a' driver' x y : ℕ) : Type 0 where
    same_bus : bus ≡ bus'
    same_space : space ≡ space'
    same_value : a ≡ a'
    same_driver : driver ≡ driver'
    two : (rest : List ℕ) × (l ≡ x ∷ (y ∷ rest))

  shown_two : (bus : ℕ) (space : Space) (a driver : ℕ) (l : List ℕ) (bus' : ℕ) (space' : Space) (a' driver' x y : ℕ)
      → shown bus space a driver (first_two l) ≡ fault bus' space' a' driver' x y → Shown bus space a driver l bus' space' a' driver' x y
  unfolding shown
  shown_two bus space a driver [] bus' space' a' driver' x y e = let z : ◌≡◌ {A = ℕ} 0 1 = cc in absurd (omega arith)
  shown_two bus space a driver (v ∷ []) bus' space' a' driver' x y e = let z : ◌≡◌ {A = ℕ} 0 1 = cc in absurd (omega arith)
  shown_two bus space a driver (v ∷ (w ∷ l)) bus' space' a' driver' x y e =
      let f : ◌≡◌ {A = Fault} (record { holder = bus; space = space; value = a; driver = driver; first = v; second = w })
      (record { holder = bus'; space = space'; value = a'; driver = driver'; first = x; second = y }) = cc in
      let first : v ≡ x = ap (λ (s : Fault). s.first) f in
      let second : w ≡ y = ap (λ (s : Fault). s.second) f in
      record {
        same_bus = ap (λ (s : Fault). s.holder) f;
        same_space = ap (λ (s : Fault). s.space) f;
        same_value = ap (λ (s : Fault). s.value) f;
        same_driver = ap (λ (s : Fault). s.driver) f;
        two = (l, cc);
      }

  -- where it does not pass, what it shows is that first fault
  search_faulted : (bus : ℕ) (space : Space) (a driver x y : ℕ) → search ≡ fault bus space a driver x y
      → FirstClash who drivers t bus space a driver x y
  search_faulted bus space a driver x y e =
      let b = in_first bus space a driver x y on_bus (buses t) e in
      let s = in_first bus space a driver x y (in_space b.0) spaces b.2 in
      let v = from_first bus space a driver x y (at_value b.0 s.0) (last_of s.0 + 1 - first_of s.0) (first_of s.0) s.2 in
      let d = in_first bus space a driver x y (driven b.0 s.0 v.0) (drivers b.0 s.0) v.3 in
      let w = shown_two b.0 s.0 v.0 d.0 (who s.0 b.0 d.0 v.0) bus space a driver x y d.2 in
      all b.0 s.0 v.0 d.0 w.same_bus w.same_space w.same_value w.same_driver
      (record {
        bus_first = clearer (λ k. on_bus k ≡ Pass) (ClearOn who drivers) (buses t) b.0 on_clear b.1;
        space_first = clearer (λ k. in_space b.0 k ≡ Pass) (ClearIn who drivers b.0) spaces s.0 (in_clear b.0) s.1;
        from_first = v.1;
        to_last = omega (arith, v.2, span s.0);
        lower = λ k l m. at_clear b.0 s.0 k (v.4 k l m);
        driver_first = clearer (λ k. driven b.0 s.0 v.0 k ≡ Pass) (Clear who drivers b.0 s.0 v.0) (drivers b.0 s.0) d.0
            (λ k. shown_clear b.0 s.0 v.0 k (who s.0 b.0 k v.0)) d.1;
        two = w.two;
      })
    where
      all : (bus' : ℕ) (space' : Space) (a' driver' : ℕ) → bus' ≡ bus → space' ≡ space → a' ≡ a → driver' ≡ driver
          → FirstClash who drivers t bus' space' a' driver' x y → FirstClash who drivers t bus space a driver x y
      all bus' space' a' driver' p q r s f = rw (sym p, sym q, sym r, sym s) f

-- the members of the lists of buses and agents, in plain words
module _ (t : Tree) where
  bridges_each : (P : ℕ → Type 0) (i left : ℕ) → Each P (bridges_from t i left) → (k : ℕ) → i ≤ k → k < i + left
      → is_bridge (t.node k).kind ≡ true → P k
  unfolding bridges_from Each
  bridges_each P i zero e k l m b = absurd (omega arith)
  bridges_each P i (suc left) e k l m b =
      tested (is_bridge (t.node i).kind)
      (λ q.
      let s : P i × Each P (bridges_from t (i + 1) left) = rw q at e in
      ⊎_elim (λ u. subst P u s.0) (λ u. bridges_each P (i + 1) left s.1 k (omega arith) (omega arith) b) (eq-or-lt_of_le l))
      (λ q.
      let s : Each P (bridges_from t (i + 1) left) = rw q at e in
      ⊎_elim (λ u. absurd (false≢true (sym q ∙ ap (λ (k : ℕ). is_bridge (t.node k).kind) u ∙ b)))
      (λ u. bridges_each P (i + 1) left s k (omega arith) (omega arith) b) (eq-or-lt_of_le l))

  each_bridges : (P : ℕ → Type 0) (i left : ℕ)
      → ((k : ℕ) → i ≤ k → k < i + left → is_bridge (t.node k).kind ≡ true → P k) → Each P (bridges_from t i left)
  unfolding bridges_from Each
  each_bridges P i zero f = tt
  each_bridges P i (suc left) f =
      tested (is_bridge (t.node i).kind)
      (λ q. rw q (f i (omega arith) (omega arith) q, each_bridges P (i + 1) left (λ k l m. f k (omega arith) (omega arith))))
      (λ q. rw q (each_bridges P (i + 1) left (λ k l m. f k (omega arith) (omega arith))))

  nodes_each : (P : ℕ → Type 0) (bus i left : ℕ) → Each P (nodes_from t bus i left) → (k : ℕ) → i ≤ k → k < i + left
      → parent_of t k ≡ bus → P k
  unfolding nodes_from Each
  nodes_each P bus i zero e k l m b = absurd (omega arith)
  nodes_each P bus i (suc left) e k l m b =
      tested (eqb (parent_of t i) bus)
      (λ q.
      let s : P i × Each P (nodes_from t bus (i + 1) left) = rw q at e in
      ⊎_elim (λ u. subst P u s.0) (λ u. nodes_each P bus (i + 1) left s.1 k (omega arith) (omega arith) b) (eq-or-lt_of_le l))
      (λ q.
      let s : Each P (nodes_from t bus (i + 1) left) = rw q at e in
      ⊎_elim (λ u. absurd (false≢true (sym q ∙ eq-eqb (parent_of t i) bus (ap (parent_of t) u ∙ b))))
      (λ u. nodes_each P bus (i + 1) left s k (omega arith) (omega arith) b) (eq-or-lt_of_le l))

  each_nodes : (P : ℕ → Type 0) (bus i left : ℕ) → ((k : ℕ) → i ≤ k → k < i + left → parent_of t k ≡ bus → P k)
      → Each P (nodes_from t bus i left)
  unfolding nodes_from Each
  each_nodes P bus i zero f = tt
  each_nodes P bus i (suc left) f =
      tested (eqb (parent_of t i) bus)
      (λ q.
      rw q (
        f i (omega arith) (omega arith) (eqb-true (parent_of t i) bus q),
        each_nodes P bus (i + 1) left (λ k l m. f k (omega arith) (omega arith)),
      ))
      (λ q. rw q (each_nodes P bus (i + 1) left (λ k l m. f k (omega arith) (omega arith))))

  -- each member of `buses` is a bus of the rack, and each bus is a member
  pub buses_each : (P : ℕ → Type 0) → Each P (buses t) → (bus : ℕ) → IsBus t bus → P bus
  unfolding Each
  buses_each P e bus (inl q) = rw q e.0
  buses_each P e bus (inr q) = bridges_each P 0 t.count e.1 bus (omega arith) (omega (arith, q.0)) q.1

  pub each_buses : (P : ℕ → Type 0) → ((bus : ℕ) → IsBus t bus → P bus) → Each P (buses t)
  unfolding Each
  each_buses P f = (f host (inl refl), each_bridges P 0 t.count (λ k l m b. f k (inr (omega arith, b))))

  -- the same of the agents of a bus
  pub agents_each : (P : ℕ → Type 0) (bus : ℕ) → Each P (agents t bus) → (g : ℕ) → OnBus t bus g → P g
  unfolding Each
  agents_each P bus e g (inl q) = rw q e.0
  agents_each P bus e g (inr q) = nodes_each P bus 0 t.count e.1 g (omega arith) (omega (arith, q.0)) q.1

  pub each_agents : (P : ℕ → Type 0) (bus : ℕ) → ((g : ℕ) → OnBus t bus g → P g) → Each P (agents t bus)
  unfolding Each
  each_agents P bus f = (f bus (inl refl), each_nodes P bus 0 t.count (λ k l m p. f k (inr (omega arith, p))))

-- all agents count: the check, as it is defined, passes exactly where there is one claimant at most, and shows the first clash
module _ (t : Tree) (im : Images) where
  check_is : check t im ≡ search t (claimants t im) (drivers_of t)
  unfolding check bus_report checked.at_value
  check_is = refl

  pub passed : check t im ≡ Pass → OneClaimant t im
  unfolding Each
  passed e =
      record {
        memory = λ bus is d on a l. agents_each t (Clear (claimants t im) (drivers_of t) bus Memory a) bus ((clear bus is).1.0 a (omega arith) (omega arith)) d on;
        io = λ bus is d on a l. agents_each t (Clear (claimants t im) (drivers_of t) bus Io a) bus ((clear bus is).1.1.0 a (omega arith) (omega arith)) d on;
        configuration = λ bus is n l m. ((clear bus is).0 n l m).0;
      }
    where
      clear : (bus : ℕ) → IsBus t bus → ClearOn (claimants t im) (drivers_of t) bus
      clear =
          buses_each t (ClearOn (claimants t im) (drivers_of t))
          (check_clear t (claimants t im) (drivers_of t) (sym check_is ∙ e))

  pub passes : OneClaimant t im → check t im ≡ Pass
  unfolding Each
  passes o =
      check_is
      ∙ clear_check t (claimants t im) (drivers_of t)
      (each_buses t (ClearOn (claimants t im) (drivers_of t))
      (λ bus is. (
        (λ n l m. (o.configuration bus is n l m, tt)),
        (
          (λ a l m. each_agents t (Clear (claimants t im) (drivers_of t) bus Memory a) bus (λ d on. o.memory bus is d on a (omega arith))),
          ((λ a l m. each_agents t (Clear (claimants t im) (drivers_of t) bus Io a) bus (λ d on. o.io bus is d on a (omega arith))), tt),
        ),
      )))

  pub faulted : (bus : ℕ) (space : Space) (a driver x y : ℕ) → check t im ≡ fault bus space a driver x y
      → FirstFault t im bus space a driver x y
  faulted bus space a driver x y e =
      search_faulted t (claimants t im) (drivers_of t) bus space a driver x y (sym check_is ∙ e)

-- held nodes are left out: the check of an accepted rack and accepted images is that check
module _ (t : Tree) (im : Images) (ok : rack_refusal t ≡ 0) (sound : image_refusal t im ≡ 0) where
  same : check t im ≡ search t (other_claimants t im) (other_drivers t im)
  unfolding other_check
  same = check_others t im ok (agreed t im sound)

  -- where the others are at most one, so are all, and the converse
  pub one_other : OneClaimant t im → OneOther t im
  one_other o =
      record {
        memory = λ bus is d on free a l. rw (others_claim t im (agreed t im sound) Memory bus a tt is d) (o.memory bus is d on a l);
        io = λ bus is d on free a l. rw (others_claim t im (agreed t im sound) Io bus a tt is d) (o.io bus is d on a l);
        configuration = λ bus is free n l m.
            rw (others_claim t im (agreed t im sound) Configuration bus n l is bus) (o.configuration bus is n l m);
      }

  pub other_one : OneOther t im → OneClaimant t im
  other_one o =
      record {
        memory = λ bus is d on a l.
            at_most_one t im ok (agreed t im sound) Memory bus d a is on tt (λ free. o.memory bus is d on free a l);
        io = λ bus is d on a l. at_most_one t im ok (agreed t im sound) Io bus d a is on tt (λ free. o.io bus is d on free a l);
        configuration = λ bus is n l m.
            at_most_one t im ok (agreed t im sound) Configuration bus bus n is (inl refl) l (λ free. o.configuration bus is free n l m);
      }

  pub other_faulted : (bus : ℕ) (space : Space) (a driver x y : ℕ) → check t im ≡ fault bus space a driver x y
      → FirstOther t im bus space a driver x y
  other_faulted bus space a driver x y e =
      search_faulted t (other_claimants t im) (other_drivers t im) bus space a driver x y (sym same ∙ e)
