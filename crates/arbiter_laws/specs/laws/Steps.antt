-- What a step comes to: nobody requests, a high member is granted, or a low one is.
use Rattle.std.specs.Prelude.{◌≡◌, refl, ◌⊎◌, ℕ, ◌<◌, Bool, true, false, not, ◌&&◌, cond, eqb}
use Rattle.std.proofs.Common.{sym, ap, subst, ◌∙◌, inl, inr, ⊎_elim, arith}
use Rattle.std.proofs.lemmas.Bool.{false≢true}
use Rattle.std.proofs.Math.Bool.{and-eq-true_iff}
use borrow.Author.Tests.{eq-eqb, ne_eqb, not-true}
use Rattle.arbiter.specs.declared.State.{State}
use Rattle.arbiter.specs.definitions.Rings.{◌has◌, is_in, low_place, none, high_ring, low_ring}
use Rattle.arbiter.specs.definitions.Arbiter.{next_low, next_place, place_requests, granted, step}
use Rattle.rack.specs.laws.Bools.{tested}
use Rattle.arbiter.specs.laws.Search.{Nobody}
use Rattle.arbiter.specs.laws.Places.{low_or_member, high_member, low_member, high_others, low_others, high_kept, low_kept}
use Rattle.arbiter_laws.specs.laws.Order.{Next, ring_next}

module _ (mask requests : ℕ) (s : State) where
  -- the places that request in each ring
  abbrev pub asks_low : ℕ → Bool
  asks_low p = is_in p (low_ring mask) && (requests has p)

  abbrev pub asks_high : ℕ → Bool
  asks_high p = is_in p (high_ring mask) && place_requests requests (next_low mask requests s) p

  pub record Idle : Type 0 where
    pub nobody : (i : ℕ) → i < 10 → (requests has i) ≡ false
    pub told : step mask requests s ≡ record { member = none; after = s }

  pub record ToHigh (g : ℕ) : Type 0 where
    pub member : g < 10
    pub high : (mask has g) ≡ true
    pub asked : (requests has g) ≡ true
    pub place : Next asks_high s.high g
    pub told : step mask requests s ≡ record { member = g; after = record { high = g; low = s.low } }

  pub record ToLow (g : ℕ) : Type 0 where
    pub member : g < 10
    pub low : (mask has g) ≡ false
    pub asked : (requests has g) ≡ true
    pub place : Next asks_high s.high low_place
    pub handed : Next asks_low s.low g
    pub told : step mask requests s ≡ record { member = g; after = record { high = low_place; low = g } }

  pub low_search : Nobody asks_low 0 11 (next_low mask requests s) ⊎ Next asks_low s.low (next_low mask requests s)
  low_search = ring_next (λ i. requests has i) s.low (low_ring mask) (low_kept mask)

  -- a low member that is found: it requests, and is of the low group
  low_found : (g : ℕ) → Next asks_low s.low g → (g < 10) × ((mask has g) ≡ false) × ((requests has g) ≡ true)
  low_found g n =
      let k = (and-eq-true_iff (is_in g (low_ring mask)) (requests has g)).0 n.passes in
      ⊎_elim
      (λ (e : g ≡ low_place). absurd (false≢true (sym (low_others mask g (omega arith)) ∙ k.0)))
      (λ (l : g < 10). (l, not-true (mask has g) (sym (low_member mask g l) ∙ k.0), k.1))
      (low_or_member g n.place)

  -- the low place requests exactly where a low member does: then there is one to hand its grant to
  pub low_idle : next_low mask requests s ≡ none → (i : ℕ) → i < 10 → (mask has i) ≡ false → (requests has i) ≡ false
  low_idle e i lt h =
      ⊎_elim
      (λ (n : Nobody asks_low 0 11 (next_low mask requests s)). sym (rw (low_member mask i lt, h)) ∙ n.fails i (omega arith) (omega arith))
      (λ (n : Next asks_low s.low (next_low mask requests s)). absurd (omega (arith, e, n.place)))
      low_search

  pub low_asked : (next_low mask requests s ≡ none → ⊥)
      → (next_low mask requests s < 10) × ((mask has next_low mask requests s) ≡ false) × ((requests has next_low mask requests s) ≡ true)
  low_asked n =
      ⊎_elim
      (λ (v : Nobody asks_low 0 11 (next_low mask requests s)). absurd (n v.is_none))
      (λ (v : Next asks_low s.low (next_low mask requests s)). low_found (next_low mask requests s) v)
      low_search

  -- a high place that is found is that of a high member, or the low place
  high_found : (g : ℕ) → g < 10 → Next asks_high s.high g → ((mask has g) ≡ true) × ((requests has g) ≡ true)
  high_found g l n =
      let k = (and-eq-true_iff (is_in g (high_ring mask)) (place_requests requests (next_low mask requests s) g)).0 n.passes in
      let no_low = sym (ne_eqb g low_place (λ e. omega arith)) in
      (sym (high_member mask g l) ∙ k.0, ap (λ (b : Bool). cond b (not (eqb (next_low mask requests s) none)) (requests has g)) no_low ∙ k.1)

  -- the low place requests where there is a low member to hand its grant to
  low_asks : asks_high low_place ≡ not (eqb (next_low mask requests s) none)
  low_asks = ap (λ (b : Bool). b && not (eqb (next_low mask requests s) none)) (high_others mask low_place (omega arith))

  low_step : (g : ℕ) → next_low mask requests s ≡ g → next_place mask requests s ≡ low_place
      → step mask requests s ≡ record { member = g; after = record { high = low_place; low = g } }
  unfolding step granted
  low_step g el ep = rw (ep, el)

  high_step : (g : ℕ) → g < 10 → next_place mask requests s ≡ g
      → step mask requests s ≡ record { member = g; after = record { high = g; low = s.low } }
  unfolding step granted
  high_step g l ep = rw (ep, ne_eqb g low_place (λ e. omega arith), ne_eqb g none (λ e. omega arith))

  idle_step : next_place mask requests s ≡ none → step mask requests s ≡ record { member = none; after = s }
  unfolding step granted
  idle_step ep = rw ep

  -- nobody was found in the high ring, so nobody requests
  nobody_asks : Nobody asks_high 0 11 (next_place mask requests s) → Nobody asks_low 0 11 (next_low mask requests s)
      → (i : ℕ) → i < 10 → (requests has i) ≡ false
  nobody_asks h l i lt =
      tested (mask has i)
      (λ k. sym (rw (high_member mask i lt, k, ne_eqb i low_place (λ e. omega arith))) ∙ h.fails i (omega arith) (omega arith))
      (λ k. sym (rw (low_member mask i lt, k)) ∙ l.fails i (omega arith) (omega arith))

  view : Idle ⊎ (((g : ℕ) × ToHigh g) ⊎ ((g : ℕ) × ToLow g))
  view =
      let low = next_low mask requests s in
      let place = next_place mask requests s in
      ⊎_elim
      (λ (h : Nobody asks_high 0 11 place).
      ⊎_elim
      (λ (l : Nobody asks_low 0 11 low). inl (record { nobody = nobody_asks h l; told = idle_step h.is_none }))
      (λ (l : Next asks_low s.low low).
      absurd (false≢true (sym (h.fails low_place (omega arith) (omega arith)) ∙ low_asks
      ∙ ap not (ne_eqb low none (λ e. omega (arith, l.place))))))
      low_search)
      (λ (h : Next asks_high s.high place).
      inr (⊎_elim
      (λ (e : place ≡ low_place).
      let h' : Next asks_high s.high low_place = subst (λ (q : ℕ). Next asks_high s.high q) e h in
      ⊎_elim
      (λ (l : Nobody asks_low 0 11 low).
      absurd (false≢true (sym (low_asks ∙ ap not (eq-eqb low none l.is_none)) ∙ h'.passes)))
      (λ (l : Next asks_low s.low low).
      let k = low_found low l in
      inr (low, record { member = k.0; low = k.1; asked = k.2; place = h'; handed = l; told = low_step low refl e }))
      low_search)
      (λ (l : place < 10).
      let k = high_found place l h in
      inl (place, record { member = l; high = k.0; asked = k.1; place = h; told = high_step place l refl }))
      (low_or_member place h.place)))
      (ring_next (place_requests requests low) s.high (high_ring mask) (high_kept mask))

  -- so what holds in each case holds of every step
  pub cases : {A : Type 0} → (Idle → A) → ((g : ℕ) → ToHigh g → A) → ((g : ℕ) → ToLow g → A) → A
  cases {A} idle high low =
      ⊎_elim idle
      (λ (v : ((g : ℕ) × ToHigh g) ⊎ ((g : ℕ) × ToLow g)).
      ⊎_elim (λ (w : (g : ℕ) × ToHigh g). high w.0 w.1) (λ (w : (g : ℕ) × ToLow g). low w.0 w.1) v)
      view
