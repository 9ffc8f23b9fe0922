-- Tests and what they tell.
use Rattle.std.specs.Prelude.{◌≡◌, refl, Bool, true, false, not, ◌&&◌, ◌||◌, ◌⊎◌}
use Rattle.std.proofs.Common.{true≢false, inl, inr}
use Rattle.std.proofs.lemmas.Bool.{false≢true}

-- a test with the equation that it passes or fails
pub tested : {P : Type 0} (b : Bool) → (b ≡ true → P) → (b ≡ false → P) → P
tested true t f = t refl
tested false t f = f refl

-- a test that does not fail passes
pub not_fails : (b : Bool) → (b ≡ false → ⊥) → b ≡ true
not_fails true n = refl
not_fails false n = absurd (n refl)

-- a test whose opposite passes fails
pub opposite : (b : Bool) → not b ≡ true → b ≡ false
opposite true e = absurd (false≢true e)
opposite false e = refl

pub either : (a b : Bool) → a || b ≡ true → (a ≡ true) ⊎ (b ≡ true)
either true b e = inl refl
either false b e = inr e

pub both : (a b : Bool) → a && b ≡ true → (a ≡ true) × (b ≡ true)
both true b e = (refl, e)
both false b e = absurd (false≢true e)

pub neither : (a b : Bool) → a || b ≡ false → (a ≡ false) × (b ≡ false)
neither true b e = absurd (true≢false e)
neither false b e = (refl, e)
