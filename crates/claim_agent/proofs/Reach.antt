-- A device's three regions, one after the other, as the calls on their array see them.
use Rattle.std.specs.Prelude.{◌≡◌, refl, Bool, true, false, not, ◌&&◌, ◌||◌, cond, ℕ, ◌-◌, ◌≤◌, ◌<◌, Option, Some, None, List, [], ◌∷◌, length, get_or}
use Rattle.std.proofs.Common.{sym, ap, ◌∙◌, arith, ltb}
use Rattle.std.specs.List.{fold, position_or_len, FoldsTo}
use Rattle.std.specs.Fn.{Called}
use Rattle.std.specs.Option.{MatchOption}
use Rattle.std.specs.Iterator.{YieldsThen}
use Rattle.std.specs.Slice.Iter.{iter_rest}
use Rattle.std.proofs.Common.{Iter}
use Rattle.std.proofs.lemmas.Iterator.{YieldsList-from_slice}
use Rattle.std.proofs.lemmas.Iterator.Search.{position_from_yields_List}
use Rattle.std.proofs.lemmas.Fn.{fronts}
use denote.Param.Members.{Mut}
use denote.Ref.{Bor}
use borrow.Author.Tests.{leb-true, ltb-true, ltb-false}
use lib.Dec.{leb}
use Rattle.std.proofs.lemmas.Option.{same_Some}
use Rattle.std.proofs.lemmas.List.{get_or_default}
use Rattle.rack.specs.laws.Bools.{tested, both}
use Rattle.claim_window.specs.declared.Area.{Area}
use Rattle.claim_window.specs.definitions.Range.{within}
use Rattle.claim_window.specs.definitions.Cut.{cut_range}
use Rattle.claim_window.specs.definitions.Area.{holds}
use Rattle.claim_agent.specs.declared.DeviceClaims.{DeviceClaims}
use Rattle.claim_agent.specs.definitions.Claim.{area_at, no_area, regions_until, reached, offset_in}

-- an address that an area holds is not below its first
pub first_le : (s : Area) (io : Bool) (a : ℕ) → holds s io a ≡ true → s.range.first ≤ a
unfolding holds
first_le s io a q =
    leb-true s.range.first a
    (both (leb s.range.first a) (leb a s.range.last) (both (io && s.io || not io && not s.io) (within s.range a) q).1).0

three : (l : List Area) (e : Area) → length l ≡ 3 → l ≡ get_or l 0 e ∷ get_or l 1 e ∷ get_or l 2 e ∷ []
three [] e h = absurd (omega arith)
three (x ∷ []) e h = absurd (omega arith)
three (x ∷ y ∷ []) e h = absurd (omega arith)
three (x ∷ y ∷ z ∷ []) e h = refl
three (x ∷ y ∷ z ∷ w ∷ l) e h = absurd (omega arith)

-- what is gone through is a device's areas also where each is read by its number, in their order
pub in_order : (d : DeviceClaims) (e : Area) {l : List Area} → length d.areas ≡ 3
    → l ≡ get_or d.areas 0 e ∷ get_or d.areas 1 e ∷ get_or d.areas 2 e ∷ [] → l ≡ d.areas
in_order d e all spelt = spelt ∙ sym (three d.areas e all)

module _ (d : DeviceClaims) (all : length d.areas ≡ 3) where
  -- the ends are cut region after region
  pub until_is : (a e : ℕ) → fold (λ (m : ℕ) (s : Area). cut_range s.range a m) e d.areas ≡ regions_until d a e
  unfolding regions_until
  until_is a e = ap (fold (λ (m : ℕ) (s : Area). cut_range s.range a m) e) (three d.areas no_area all)

  module _ (io : Bool) (a : ℕ) where
    -- where the first region that holds an address stands is its number, 3 where none does
    number_is : position_or_len (λ (s : Area). holds s io a) d.areas ≡ reached d io a
    unfolding reached
    number_is =
        ap (position_or_len (λ (s : Area). holds s io a)) (three d.areas no_area all)
        ∙ tested (holds (area_at d 0) io a) (λ p. rw p)
        (λ p. tested (holds (area_at d 1) io a) (λ q. rw (p, q)) (λ q. tested (holds (area_at d 2) io a) (λ s. rw (p, q, s)) (λ s. rw (p, q, s))))

    -- a number below 3 is that of a region that holds the address, at the offset from its first
    reached_here : reached d io a < 3 → (holds (area_at d (reached d io a)) io a ≡ true) × (a - (area_at d (reached d io a)).range.first ≡ offset_in d io a)
    unfolding reached offset_in
    reached_here =
        tested (holds (area_at d 0) io a) (λ p. rw p (λ h. (p, refl)))
        (λ p.
        tested (holds (area_at d 1) io a) (λ q. rw (p, q) (λ h. (q, refl)))
        (λ q. tested (holds (area_at d 2) io a) (λ s. rw (p, q, s) (λ h. (s, refl))) (λ s. rw (p, q, s) (λ h. absurd (omega arith)))))

    reached_past : 3 ≤ reached d io a → (3 ≡ reached d io a) × (0 ≡ offset_in d io a)
    unfolding reached offset_in
    reached_past =
        tested (holds (area_at d 0) io a) (λ p. rw p (λ h. absurd (omega arith)))
        (λ p.
        tested (holds (area_at d 1) io a) (λ q. rw (p, q) (λ h. absurd (omega arith)))
        (λ q. tested (holds (area_at d 2) io a) (λ s. rw (p, q, s) (λ h. absurd (omega arith))) (λ s. rw (p, q, s) (λ h. (refl, refl)))))

    -- what `position` gives of the areas
    abbrev pub found : Option ℕ
    found =
        cond (ltb (position_or_len (λ (s : Area). holds s io a) d.areas) (length d.areas))
        (Some (position_or_len (λ (s : Area). holds s io a) d.areas)) None

    pub searched : {F : Type 0} {g : Mut F (Bor Area × Unit {0}) Bool} {s u : Iter Area} {f : F} {r : Option ℕ}
        → (xs : List (Bor Area)) × (o : Option (Bor Area)) × (j : F) × YieldsThen fronts s xs o u × FoldsTo (λ p x q. Called g p (x, tt) false q) f xs j
        × MatchOption o (r ≡ None) (λ x. (r ≡ Some (length xs)) × ((h : F) × Called g j (x, tt) true h))
        → iter_rest s ≡ d.areas → ((x : Bor Area) (b : Bool) (q : F) → Called g f (x, tt) b q → (q ≡ f) × (b ≡ holds x.now io a)) → r ≡ found
    searched {u = u} {f = f} {r = r} ran rest passes =
        position_from_yields_List (λ (s : Area). holds s io a) u f r ran (YieldsList-from_slice d.areas rest) passes

    found_is : found ≡ cond (ltb (reached d io a) 3) (Some (reached d io a)) None
    found_is = rw (number_is, all)

    pub none_reached : {o : Option ℕ} → o ≡ found → o ≡ None → (3 ≡ reached d io a) × (0 ≡ offset_in d io a)
    none_reached {o} eo z =
        tested (ltb (reached d io a) 3) (λ q. let e : o ≡ Some (reached d io a) = eo ∙ found_is ∙ rw q in absurd cc)
        (λ q. reached_past (ltb-false (reached d io a) 3 q))

    module _ {o : Option ℕ} {i : ℕ} (eo : o ≡ found) (z : o ≡ Some i) where
      here : (i < 3) × (i ≡ reached d io a) × ((area_at d i).range.first ≤ a) × (a - (area_at d i).range.first ≡ offset_in d io a)
      here =
          tested (ltb (reached d io a) 3)
          (λ q.
          let e : i ≡ reached d io a = same_Some i (reached d io a) (sym z ∙ eo ∙ found_is ∙ rw q) in
          let l : reached d io a < 3 = ltb-true (reached d io a) 3 q in
          let h = reached_here l in
          rw e (l, refl, first_le (area_at d (reached d io a)) io a h.0, h.1))
          (λ q. let e : o ≡ None = eo ∙ found_is ∙ rw q in absurd cc)

      read : (y : Area) → get_or d.areas i y ≡ area_at d i
      read y = get_or_default d.areas i y no_area (omega (arith, all, here.0))

      pub one_above : (y : Area) → (get_or d.areas i y).range.first ≤ a
      one_above y = rw (read y) here.2

      pub one_reached : (y : Area) → (i ≡ reached d io a) × (a - (get_or d.areas i y).range.first ≡ offset_in d io a)
      one_reached y = rw (read y) (here.1, here.3)
