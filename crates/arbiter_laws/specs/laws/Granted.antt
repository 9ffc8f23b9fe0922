-- A grant is given exactly where somebody requests, and to a requester; accepted states stay accepted.
use Rattle.std.specs.Prelude.{◌≡◌, ℕ, ◌<◌, true, false, not, List}
use Rattle.std.proofs.Common.{sym, ap, ◌∙◌, arith}
use Rattle.std.proofs.lemmas.Bool.{false≢true}
use Rattle.arbiter.specs.declared.State.{State}
use Rattle.arbiter.specs.definitions.Rings.{◌has◌, is_in, low_place, none, high_ring, low_ring}
use Rattle.arbiter.specs.definitions.Arbiter.{step, is_state}
use Rattle.arbiter.specs.laws.Places.{high_member, low_member, high_others}
use Rattle.arbiter_laws.specs.laws.Steps.{cases}

-- a place of a ring is a state of it
place_state : (ring : List ℕ) (p : ℕ) → is_in p ring ≡ true → is_state ring p ≡ true
unfolding is_state
place_state ring p e = rw e

module _ (mask requests : ℕ) (s : State) where
  some_member : (g : ℕ) → g < 10 → (step mask requests s).member ≡ g → (step mask requests s).member ≡ none → ⊥
  some_member g lt e n = omega arith

  -- where somebody requests there is a grant
  pub is_granted_lem : (i : ℕ) → i < 10 → (requests has i) ≡ true → (step mask requests s).member ≡ none → ⊥
  is_granted_lem i lt e n =
      cases mask requests s
      (λ v. false≢true (sym (v.nobody i lt) ∙ e))
      (λ g v. some_member g v.member (ap (λ t. t.member) v.told) n)
      (λ g v. some_member g v.member (ap (λ t. t.member) v.told) n)

  -- and it goes to one of the ten, who requests
  pub to_requester : ((step mask requests s).member ≡ none → ⊥)
      → ((step mask requests s).member < 10) × ((requests has (step mask requests s).member) ≡ true)
  to_requester n =
      cases mask requests s
      (λ v. absurd (n (ap (λ t. t.member) v.told)))
      (λ g v. rw v.told (v.member, v.asked))
      (λ g v. rw v.told (v.member, v.asked))

  -- without one the state is as it was
  pub idle_stays : (step mask requests s).member ≡ none → (step mask requests s).after ≡ s
  idle_stays n =
      cases mask requests s
      (λ v. ap (λ t. t.after) v.told)
      (λ g v. absurd (some_member g v.member (ap (λ t. t.member) v.told) n))
      (λ g v. absurd (some_member g v.member (ap (λ t. t.member) v.told) n))

  -- the state after a grant names who was granted; a high member's leaves the low ring as it was
  pub after_high : (mask has (step mask requests s).member) ≡ true → ((step mask requests s).member ≡ none → ⊥)
      → (step mask requests s).after ≡ record { high = (step mask requests s).member; low = s.low }
  after_high h n =
      cases mask requests s
      (λ v. absurd (n (ap (λ t. t.member) v.told)))
      (λ g v. rw v.told)
      (λ g v. absurd (false≢true (sym (ap (λ t. mask has t.member) v.told ∙ v.low) ∙ h)))

  pub after_low : (mask has (step mask requests s).member) ≡ false → ((step mask requests s).member ≡ none → ⊥)
      → (step mask requests s).after ≡ record { high = low_place; low = (step mask requests s).member }
  after_low h n =
      cases mask requests s
      (λ v. absurd (n (ap (λ t. t.member) v.told)))
      (λ g v. absurd (false≢true (sym h ∙ ap (λ t. mask has t.member) v.told ∙ v.high)))
      (λ g v. rw v.told)

  -- accepted states stay accepted
  pub high_stays : is_state (high_ring mask) s.high ≡ true → is_state (high_ring mask) (step mask requests s).after.high ≡ true
  high_stays e =
      cases mask requests s
      (λ v. rw v.told e)
      (λ g v. rw v.told (place_state (high_ring mask) g (high_member mask g v.member ∙ v.high)))
      (λ g v. rw v.told (place_state (high_ring mask) low_place (high_others mask low_place (omega arith))))

  pub low_stays : is_state (low_ring mask) s.low ≡ true → is_state (low_ring mask) (step mask requests s).after.low ≡ true
  low_stays e =
      cases mask requests s
      (λ v. rw v.told e)
      (λ g v. rw v.told e)
      (λ g v. rw v.told (place_state (low_ring mask) g (low_member mask g v.member ∙ ap not v.low)))
