-- The check equals the check with held nodes left out as claimants and as drivers.
use Rattle.std.specs.Prelude.{◌≡◌, refl, true, false, List, [], ◌∷◌, ℕ, zero, suc, ◌+◌, ◌-◌, ◌≤◌, ◌<◌}
use Rattle.std.proofs.Math.Path.{sym, ap}
use Rattle.std.proofs.Common.{◌∙◌, inl, inr, arith}
use Rattle.rack.specs.definitions.Node.{is_bridge}
use Rattle.rack.specs.definitions.Tree.{Tree, host, bridges_from, buses, IsBus}
use Rattle.rack.specs.definitions.Refusal.{rack_refusal}
use Rattle.rack.specs.laws.Bools.{tested}
use Rattle.register_image.specs.definitions.Image.{Images}
use Rattle.bus_reset.specs.definitions.Held.{held_bus}
use Rattle.bus_reset.specs.definitions.Agreement.{disagrees}
use Rattle.claim_agent.specs.declared.Space.{Space}
use Rattle.claim_agent.specs.declared.Space.TheVariants.{Memory, Io, Configuration}
use Rattle.claim_agent.specs.definitions.Space.{last_of}
use Rattle.claim_agent.specs.definitions.Claimants.{claimants, first_two}
use Rattle.claim_laws.specs.laws.Held.{Asked}
use Rattle.check_search.specs.definitions.Report.{Report, Pass}
use Rattle.check_search.specs.definitions.Check.{first_in, first_from, shown, driven_by, drivers_of, at_value, first_of, in_space, bus_report, check}
use Rattle.check_search.proofs.StretchLaws.{fewer_shown}
use Rattle.held_laws.specs.definitions.Others.{other_claimants, other_drivers, other_check}
use Rattle.held_laws.specs.laws.Others.{others_claim, held_bus_one, free_drivers}

-- searches that find the same at each place
in_same : {A : Type 0} (f g : A → Report) (l : List A) → ((x : A) → f x ≡ g x) → first_in f l ≡ first_in g l
unfolding first_in
in_same f g [] s = refl
in_same f g (x ∷ xs) s = rw (s x, in_same f g xs s)

from_same : (f g : ℕ → Report) (left a : ℕ) → ((x : ℕ) → a ≤ x → f x ≡ g x) → first_from f left a ≡ first_from g left a
unfolding first_from
from_same f g zero a s = refl
from_same f g (suc left) a s = rw (s a (omega arith), from_same f g left (a + 1) (λ x l. s x (omega arith)))

bridges_same : (t : Tree) (f g : ℕ → Report) (i left : ℕ)
    → ((k : ℕ) → k < i + left → is_bridge (t.node k).kind ≡ true → f k ≡ g k)
    → first_in f (bridges_from t i left) ≡ first_in g (bridges_from t i left)
unfolding first_in bridges_from
bridges_same t f g i zero s = refl
bridges_same t f g i (suc left) s =
    let r = bridges_same t f g (i + 1) left (λ k h. s k (omega arith)) in
    tested (is_bridge (t.node i).kind) (λ q. rw (q, s i (omega arith) q, r)) (λ q. rw (q, r))

buses_same : (t : Tree) (f g : ℕ → Report) → ((bus : ℕ) → IsBus t bus → f bus ≡ g bus) → first_in f (buses t) ≡ first_in g (buses t)
unfolding first_in
buses_same t f g s =
    rw (s host (inl refl), bridges_same t f g 0 t.count (λ k h b. s k (inr (omega arith, b))))

-- and that pass everywhere
in_none : (f : ℕ → Report) (l : List ℕ) → ((x : ℕ) → f x ≡ Pass) → first_in f l ≡ Pass
unfolding first_in
in_none f [] s = refl
in_none f (x ∷ xs) s = rw (s x) (in_none f xs s)

-- every value that is checked may be asked for
first_asked : (space : Space) (a : ℕ) → first_of space ≤ a → Asked space a
first_asked Memory a h = tt
first_asked Io a h = tt
first_asked Configuration a h = h

module _ (t : Tree) (im : Images) where
  -- one driver, all drivers of a value, all values of a space, all spaces of a bus, with held nodes left out
  abbrev pub other_driven : ℕ → Space → ℕ → ℕ → Report
  other_driven bus space a driver = shown bus space a driver (first_two (other_claimants t im space bus driver a))

  abbrev pub other_value : ℕ → Space → ℕ → Report
  other_value bus space a = first_in (other_driven bus space a) (other_drivers t im bus space)

  abbrev pub other_space : ℕ → Space → Report
  other_space bus space = first_from (other_value bus space) (last_of space + 1 - first_of space) (first_of space)

  abbrev pub other_bus : ℕ → Report
  other_bus bus = first_in (other_space bus) (Configuration ∷ Memory ∷ Io ∷ [])

  module _ (ok : rack_refusal t ≡ 0) (agrees : disagrees t im ≡ false) (bus : ℕ) (is : IsBus t bus) where
    driven_same : (space : Space) (a : ℕ) → Asked space a → (driver : ℕ) → driven_by t im bus space a driver ≡ other_driven bus space a driver
    driven_same space a h driver =
        ap (λ (l : List ℕ). shown bus space a driver (first_two l)) (sym (others_claim t im agrees space bus a h is driver))

    -- a held bus has no fault, whoever drives there
    held_passes : held_bus t im bus ≡ true → (space : Space) (a : ℕ) → Asked space a → (driver : ℕ) → driven_by t im bus space a driver ≡ Pass
    held_passes held space a h driver =
        fewer_shown bus space a driver (claimants t im space bus driver a) (held_bus_one t im agrees space bus a h ok held driver)

    value_same : (space : Space) (a : ℕ) → Asked space a → at_value t im bus space a ≡ other_value bus space a
    unfolding at_value
    value_same space a h =
        tested (held_bus t im bus)
        (λ q.
        in_none (driven_by t im bus space a) (drivers_of t bus space) (held_passes q space a h)
        ∙ sym
        (in_none (other_driven bus space a) (other_drivers t im bus space)
        (λ d. sym (driven_same space a h d) ∙ held_passes q space a h d)))
        (λ q.
        in_same (driven_by t im bus space a) (other_driven bus space a) (drivers_of t bus space) (driven_same space a h)
        ∙ ap (first_in (other_driven bus space a)) (sym (free_drivers t im ok bus is q space)))

    space_same : (space : Space) → in_space t im bus space ≡ other_space bus space
    space_same space =
        from_same (at_value t im bus space) (other_value bus space) (last_of space + 1 - first_of space) (first_of space)
        (λ a l. value_same space a (first_asked space a l))

    bus_same : bus_report t im bus ≡ other_bus bus
    unfolding bus_report
    bus_same = in_same (in_space t im bus) (other_space bus) (Configuration ∷ Memory ∷ Io ∷ []) space_same

  -- 02, E5: 'The check counts no held node as claimant or driver'
  pub check_others : rack_refusal t ≡ 0 → disagrees t im ≡ false → check t im ≡ other_check t im
  unfolding check other_check
  check_others ok agrees = buses_same t (bus_report t im) other_bus (λ bus is. bus_same ok agrees bus is)
