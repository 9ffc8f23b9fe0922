-- A step from what its two searches found.
use Rattle.std.specs.Prelude.{◌≡◌, refl, ℕ, Bool, false, not, ◌&&◌, Option, Some, None, List, eqb}
use Rattle.std.proofs.Common.{sym, ap, ◌∙◌, subst, eqb-true}
use Rattle.std.specs.Option.{is_some, unwrap_or}
use Rattle.std.proofs.lemmas.Option.{none-some}
use borrow.Author.Tests.{eq-eqb, ne_eqb}
use Rattle.arbiter.specs.declared.State.{State}
use Rattle.arbiter.specs.definitions.Rings.{◌has◌, up_from, keep, is_in, low_place, none, place_named, high_ring, low_ring, first_of, onwards, next_after}
use Rattle.arbiter.specs.definitions.SetSearch.{Requesting, next_in}
use Rattle.arbiter.specs.definitions.Arbiter.{asks, place_requests, next_low, next_place, granted, step, turn_of}
use Rattle.rack.specs.laws.Bools.{tested}
use Rattle.arbiter.specs.laws.Search.{named_or, first_ring, round_same}
use Rattle.arbiter.specs.laws.Places.{high_kept, low_kept}

-- a set of the requesting places of a ring has its next one
next_in_lem : (set last : ℕ) (ring : List ℕ) (requests : ℕ → Bool) → ring ≡ keep (λ p. is_in p ring) (up_from 0 11) → Requesting set ring requests
    → next_in set last ≡ next_after requests last ring
unfolding next_in
next_in_lem set last ring requests kept e =
    round_same (λ p. set has p) (λ p. is_in p ring && requests p) last e
    ∙ sym (first_ring requests (λ p. is_in p ring) last (up_from 0 11))
    ∙ ap (λ (r : List ℕ). first_of requests (onwards last r)) (sym kept)

-- a number that may be none, as an option
named_some : (n : ℕ) → is_some (place_named n) ≡ not (eqb n none)
named_some n = tested (eqb n none) (λ k. rw k) (λ k. rw k)

module _ (mask requests : ℕ) (s : State) (lowSet highSet : ℕ) {low place : Option ℕ} {b : Bool}
    (lows : Requesting lowSet (low_ring mask) (λ i. requests has i)) (el : low ≡ place_named (next_in lowSet s.low)) (eb : b ≡ is_some low)
    (highs : Requesting highSet (high_ring mask) (asks requests b)) (ep : place ≡ place_named (next_in highSet s.high)) where
  found_low : next_in lowSet s.low ≡ next_low mask requests s
  found_low = next_in_lem lowSet s.low (low_ring mask) (λ i. requests has i) (low_kept mask) lows

  asked : b ≡ not (eqb (next_low mask requests s) none)
  asked = eb ∙ ap is_some el ∙ named_some (next_in lowSet s.low) ∙ ap (λ (n : ℕ). not (eqb n none)) found_low

  found_place : next_in highSet s.high ≡ next_place mask requests s
  found_place =
      next_in_lem highSet s.high (high_ring mask) (place_requests requests (next_low mask requests s)) (high_kept mask)
      (subst (λ (x : Bool). Requesting highSet (high_ring mask) (asks requests x)) asked highs)

  member : low ≡ place_named (next_low mask requests s)
  member = el ∙ ap place_named found_low

  named : place ≡ place_named (next_place mask requests s)
  named = ep ∙ ap place_named found_place

  module _ {p : ℕ} (e : place ≡ Some p) where
    -- the place found has a number below none's
    numbered : (next_place mask requests s ≡ p) × (eqb (next_place mask requests s) none ≡ false)
    numbered =
        let at = next_place mask requests s in
        tested (eqb at none)
        (λ k. let q : place ≡ None = named ∙ rw k in absurd (none-some p (sym q ∙ e)))
        (λ k. let q : place ≡ Some at = named ∙ rw k in (ap (λ (o : Option ℕ). unwrap_or o none) (sym q ∙ e), k))

    pub low_granted : p ≡ low_place → {u : ℕ} → u ≡ unwrap_or low none
        → record { member = low; after = record { high = low_place; low = u } } ≡ turn_of (step mask requests s)
    unfolding step granted
    low_granted h {u} eu =
        let at : next_place mask requests s ≡ low_place = numbered.0 ∙ h in
        let lowest : u ≡ next_low mask requests s = eu ∙ ap (λ (o : Option ℕ). unwrap_or o none) member ∙ named_or (next_low mask requests s) in
        rw (eq-eqb (next_place mask requests s) low_place at, lowest, member) refl

    pub high_granted : (p ≡ low_place → ⊥)
        → record { member = Some p; after = record { high = p; low = s.low } } ≡ turn_of (step mask requests s)
    unfolding step granted
    high_granted h =
        let other = ne_eqb (next_place mask requests s) low_place (λ q. h (sym numbered.0 ∙ q)) in
        let told : step mask requests s ≡ record { member = next_place mask requests s; after = record { high = next_place mask requests s; low = s.low } } =
        rw (other, numbered.1) in
        sym (ap turn_of told ∙ rw (numbered.1, numbered.0) refl)

  pub none_granted : place ≡ None → record { member = None; after = s } ≡ turn_of (step mask requests s)
  unfolding step granted
  none_granted e =
      let at : next_place mask requests s ≡ none =
      tested (eqb (next_place mask requests s) none) (eqb-true (next_place mask requests s) none)
      (λ k. let q : place ≡ Some (next_place mask requests s) = named ∙ rw k in absurd (none-some (next_place mask requests s) (sym e ∙ q))) in
      rw at refl
