-- 'after the rotating scheme in source document 001': its figure 12-1 has four high members, B and m0 to m2, and five low ones, m3 to m7,
-- and 'if all requests are always asserted' grants go to B, m0, m1, m2, m3, B, m0, m1, m2, m4, B, m0, m1, m2, m5 'and so forth'. Here B
-- is 0 and each m one more than its number; 9 is low and does not request.
use Rattle.std.specs.Prelude.{◌≡◌, refl, [], ◌∷◌, replicate}
use Rattle.arbiter.specs.definitions.Rings.{up_from, keep, onwards, first_of}
use Rattle.arbiter.specs.definitions.Arbiter.{first, granted, step}
use Rattle.arbiter_laws.specs.definitions.Fair.{grants}

pub rotation : grants 0b1111 first (replicate 15 0b1_1111_1111) ≡ 0 ∷ 1 ∷ 2 ∷ 3 ∷ 4 ∷ 0 ∷ 1 ∷ 2 ∷ 3 ∷ 5 ∷ 0 ∷ 1 ∷ 2 ∷ 3 ∷ 6 ∷ []
unfolding grants step granted first_of onwards keep up_from
rotation = refl
