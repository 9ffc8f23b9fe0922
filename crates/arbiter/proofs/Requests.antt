-- The sets of requesting places that the code makes.
use mathlib.Core.Path.{◌≡◌, sym, ap, ap₂, ◌∙◌}
use mathlib.Core.Logic.{⊎_elim}
use Prim.Native.Nat.{ℕ, ◌-◌, ◌<◌}
use native.Mathlib.Omega.{arith}
use mathlib.Core.Bool.{Bool, true, false, not, ◌&&◌, ◌||◌, and_comm, or-false}
use lib.Bits.{bit_and, bit_or}
use borrow.Author.Tests.{eq-eqb, ne_eqb}
use Rattle.arbiter.specs.definitions.Rings.{◌has◌, is_in, low_place, high_ring, low_ring}
use Rattle.arbiter.specs.definitions.SetSearch.{Requesting}
use Rattle.arbiter.specs.definitions.Arbiter.{asks}
use Rattle.arbiter.specs.laws.Places.{low_or_member, high_member, low_member, high_others, low_others}
use Rattle.arbiter.specs.laws.Sets.{has_and, has_or, has_not, has_none, has_one}

module _ (mask requests : ℕ) (few : requests < 1024) where
  no_ten : (p : ℕ) → p ≡ low_place → (requests has p) ≡ false
  no_ten p e = has_none 10 requests p few (omega arith)

  pub low_set : mask < 65536 → Requesting (bit_and requests (65535 - mask)) (low_ring mask) (λ i. requests has i)
  low_set fits p h =
      has_and requests (65535 - mask) p
      ∙ ⊎_elim
      (λ (e : p ≡ low_place). rw (no_ten p e, low_others mask p (omega arith)))
      (λ (l : p < 10). ap (λ (x : Bool). (requests has p) && x) (has_not 16 mask p fits (omega arith))
      ∙ and_comm (requests has p) (not (mask has p)) ∙ ap (λ (x : Bool). x && (requests has p)) (sym (low_member mask p l)))
      (low_or_member p h)

  members : (p : ℕ) (low : Bool) → p < 10 → (bit_and requests mask has p) ≡ (is_in p (high_ring mask) && asks requests low p)
  members p low l =
      has_and requests mask p ∙ and_comm (requests has p) (mask has p)
      ∙ rw (high_member mask p l, ne_eqb p low_place (λ e. omega arith))

  pub high_set : {low : Bool} → low ≡ false → Requesting (bit_and requests mask) (high_ring mask) (asks requests low)
  high_set {low} el p h =
      ⊎_elim
      (λ (e : p ≡ low_place). has_and requests mask p
      ∙ rw (no_ten p e, high_others mask p (omega arith), eq-eqb p low_place e, el))
      (members p low) (low_or_member p h)

  pub high_set_low : {low : Bool} → low ≡ true → Requesting (bit_or (bit_and requests mask) 1024) (high_ring mask) (asks requests low)
  high_set_low {low} el p h =
      has_or (bit_and requests mask) 1024 p
      ∙ ⊎_elim
      (λ (e : p ≡ low_place).
      rw (has_and requests mask p, no_ten p e, has_one 10 p, high_others mask p (omega arith), eq-eqb p low_place e, el))
      (λ (l : p < 10). ap₂ (λ (x y : Bool). x || y) (members p low l) (has_one 10 p ∙ ne_eqb p 10 (λ e. omega arith)) ∙ or-false _)
      (low_or_member p h)
