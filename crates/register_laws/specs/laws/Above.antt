-- The bridges above the nodes of a bus, by the tests that they pass.
use Rattle.std.specs.Prelude.{◌≡◌, Bool, not, ◌||◌, ◌⊎◌, eqb}
use Rattle.std.proofs.Math.Path.{refl}
use Rattle.std.proofs.Common.{sym, ap, ◌∙◌, inl, inr, ⊎_elim, arith, add-one, ne_eqb, eq-eqb, eqb-true}
use Rattle.std.proofs.Math.Bool.{true, false, false≢true}
use Prim.Native.Nat.{ℕ, zero, suc, ◌+◌, ◌≤◌, ◌<◌}
use Rattle.rack.specs.definitions.Tree.{Tree, host, parent_of}
use Rattle.rack.specs.definitions.Refusal.{rack_refusal}
use Rattle.rack.specs.laws.Bools.{tested, both, either}
use Rattle.rack_laws.specs.laws.Sound.{parent_is, not_host}
use Rattle.bus_reset.specs.definitions.Held.{above_in, above, is_below}

module _ (t : Tree) where
  -- one step up
  step_found : (f : ℕ → Bool) (steps bus : ℕ) → not (eqb bus host) ≡ true → (f bus ≡ true) ⊎ (above_in t f steps (parent_of t bus) ≡ true)
      → above_in t f (suc steps) bus ≡ true
  unfolding above_in
  step_found f steps bus q (inl e) = rw (q, e)
  step_found f steps bus q (inr e) = rw (q, e) (or_true (f bus))
    where
      or_true : (b : Bool) → b || true ≡ true
      or_true true = refl
      or_true false = refl

  step_from : (f : ℕ → Bool) (steps bus : ℕ) → above_in t f (suc steps) bus ≡ true
      → (not (eqb bus host) ≡ true) × ((f bus ≡ true) ⊎ (above_in t f steps (parent_of t bus) ≡ true))
  unfolding above_in
  step_from f steps bus e =
      let s = both (not (eqb bus host)) (f bus || above_in t f steps (parent_of t bus)) e in
      (s.0, either (f bus) (above_in t f steps (parent_of t bus)) s.1)

  none_from : (f : ℕ → Bool) (bus : ℕ) → above_in t f 0 bus ≡ true → ⊥
  unfolding above_in
  none_from f bus e = false≢true e

  either_in : (f g h : ℕ → Bool) → ((b : ℕ) → f b ≡ true → (g b ≡ true) ⊎ (h b ≡ true)) → (steps bus : ℕ)
      → above_in t f steps bus ≡ true → (above_in t g steps bus ≡ true) ⊎ (above_in t h steps bus ≡ true)
  either_in f g h o zero bus e = absurd (none_from f bus e)
  either_in f g h o (suc steps) bus e =
      let s = step_from f steps bus e in
      ⊎_elim
      (λ a.
      ⊎_elim (λ b. inl (step_found g steps bus s.0 (inl b))) (λ b. inr (step_found h steps bus s.0 (inl b))) (o bus a))
      (λ a.
      ⊎_elim (λ b. inl (step_found g steps bus s.0 (inr b))) (λ b. inr (step_found h steps bus s.0 (inr b)))
      (either_in f g h o steps (parent_of t bus) a))
      s.1

  -- where a test passes only where one of two others does, one of these passes above
  pub above_either : (f g h : ℕ → Bool) → ((b : ℕ) → f b ≡ true → (g b ≡ true) ⊎ (h b ≡ true)) → (bus : ℕ)
      → above t f bus ≡ true → (above t g bus ≡ true) ⊎ (above t h bus ≡ true)
  above_either f g h o bus e = either_in f g h o (bus + 1) bus e

  -- a test that is stricter than another
  pub above_more : (f g : ℕ → Bool) → ((b : ℕ) → f b ≡ true → g b ≡ true) → (bus : ℕ) → above t f bus ≡ true → above t g bus ≡ true
  above_more f g m bus e = ⊎_elim (λ q. q) (λ q. q) (above_either f g g (λ b q. inl (m b q)) bus e)

  same_in : (f g : ℕ → Bool) → ((b : ℕ) → f b ≡ g b) → (steps bus : ℕ) → above_in t f steps bus ≡ above_in t g steps bus
  unfolding above_in
  same_in f g s zero bus = refl
  same_in f g s (suc steps) bus = rw (s bus, same_in f g s steps (parent_of t bus))

  -- tests that agree
  pub above_same : (f g : ℕ → Bool) → ((b : ℕ) → f b ≡ g b) → (bus : ℕ) → above t f bus ≡ above t g bus
  above_same f g s bus = same_in f g s (bus + 1) bus

  -- nothing is above the root bus
  root_in : (f : ℕ → Bool) (steps : ℕ) → above_in t f steps host ≡ false
  unfolding above_in
  root_in f zero = refl
  root_in f (suc steps) = refl

  pub above_root : (f : ℕ → Bool) → above t f host ≡ false
  above_root f = root_in f 256

  module _ (ok : rack_refusal t ≡ 0) (f : ℕ → Bool) where
    step_in : (steps i : ℕ) → i < t.count → above_in t f (suc steps) i ≡ (f i || above_in t f steps (parent_of t i))
    unfolding above_in
    step_in steps i h = rw (ne_eqb i host (not_host t ok i h))

    at_root : (k l bus : ℕ) → bus ≡ host → above_in t f k bus ≡ above_in t f l bus
    at_root k l bus e = ap (above_in t f k) e ∙ root_in f k ∙ sym (ap (above_in t f l) e ∙ root_in f l)

    -- once the steps are enough, their number plays no part
    enough : (k l i : ℕ) → i < k → i < l → i < t.count → above_in t f k i ≡ above_in t f l i
    enough zero l i a b h = absurd (omega arith)
    enough (suc k) zero i a b h = absurd (omega arith)
    enough (suc k) (suc l) i a b h =
        step_in k i h
        ∙ ap (λ (o : Bool). f i || o)
        (⊎_elim (λ r. at_root k l (parent_of t i) r)
        (λ r. enough k l (parent_of t i) (omega (arith, r.0)) (omega (arith, r.0)) (omega (arith, r.0)))
        (parent_is t ok i h))
        ∙ sym (step_in l i h)

    -- above the bus of node i are node i and what is above the bus that it sits on
    pub above_step : (i : ℕ) → i < t.count → above t f i ≡ (f i || above t f (parent_of t i))
    above_step i h =
        rw (add-one i) (step_in i i h)
        ∙ ap (λ (o : Bool). f i || o)
        (⊎_elim (λ r. at_root i (parent_of t i + 1) (parent_of t i) r)
        (λ r. enough i (parent_of t i + 1) (parent_of t i) r.0 (omega arith) (omega (arith, r.0)))
        (parent_is t ok i h))

  -- the one bridge above that passes, and the converse
  found_in : (f : ℕ → Bool) (steps bus : ℕ) → above_in t f steps bus ≡ true → (b : ℕ) × (f b ≡ true) × (above_in t (eqb b) steps bus ≡ true)
  found_in f zero bus e = absurd (none_from f bus e)
  found_in f (suc steps) bus e =
      let s = step_from f steps bus e in
      ⊎_elim (λ a. (bus, a, step_found (eqb bus) steps bus s.0 (inl (eq-eqb bus bus refl))))
      (λ a.
      let r = found_in f steps (parent_of t bus) a in
      (r.0, r.1, step_found (eqb r.0) steps bus s.0 (inr r.2)))
      s.1

  -- a bridge above a bus passes: there is one that does
  pub above_found : (f : ℕ → Bool) (bus : ℕ) → above t f bus ≡ true → (b : ℕ) × (f b ≡ true) × (above t (eqb b) bus ≡ true)
  above_found f bus e = found_in f (bus + 1) bus e

  -- and the converse
  pub found_above : (f : ℕ → Bool) (b bus : ℕ) → f b ≡ true → above t (eqb b) bus ≡ true → above t f bus ≡ true
  found_above f b bus e a = above_more (eqb b) f (λ g q. rw (sym (eqb-true b g q)) e) bus a

  module _ (ok : rack_refusal t ≡ 0) where
    -- a bridge above a bus has no higher number than its holder
    above_le : (steps b bus : ℕ) → bus < t.count → above_in t (eqb b) steps bus ≡ true → b ≤ bus
    above_le zero b bus h e = absurd (none_from (eqb b) bus e)
    above_le (suc steps) b bus h e =
        ⊎_elim (λ q. omega (arith, eqb-true b bus q))
        (λ q.
        ⊎_elim (λ r. absurd (false≢true (sym (ap (above_in t (eqb b) steps) r ∙ root_in (eqb b) steps) ∙ q)))
        (λ r. omega (arith, r.0, above_le steps b (parent_of t bus) (omega (arith, r.0)) q)) (parent_is t ok bus h))
        (step_from (eqb b) steps bus e).1

    -- so a bridge above node i is an earlier node
    pub above_earlier : (b i : ℕ) → i < t.count → is_below t b i ≡ true → b < i
    above_earlier b i h q =
        ⊎_elim (λ r. absurd (false≢true (sym (ap (above t (eqb b)) r ∙ above_root (eqb b)) ∙ q)))
        (λ r. omega (arith, r.0, above_le (parent_of t i + 1) b (parent_of t i) (omega (arith, r.0)) q)) (parent_is t ok i h)

    -- and no node is below itself
    pub above_own : (i : ℕ) → i < t.count → is_below t i i ≡ false
    above_own i h = tested (is_below t i i) (λ q. absurd (omega (arith, above_earlier i i h q))) (λ q. q)
