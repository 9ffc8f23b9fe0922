-- The two rings of an arbiter and the search in them. Sentences are those of document 02, E14.
use Rattle.std.specs.Prelude.{ℕ, zero, suc, ◌+◌, ◌/◌, ◌%◌, ◌^◌, Option, None, Some, Bool, false, not, ◌||◌, cond, List, [], ◌∷◌, ◌++◌, eqb, leb, ltb}

infix 50 ◌has◌
-- whether a set of requesters has member i: bit i of its number
abbrev pub ◌has◌ : ℕ → ℕ → Bool
set has i = eqb (set / 2 ^ i % 2) 1

-- the n numbers from i on
unfoldable pub up_from : ℕ → ℕ → List ℕ
up_from i zero = []
up_from i (suc n) = i ∷ up_from (i + 1) n

-- those of a list that pass a test, and whether a number is among them
unfoldable pub keep : (ℕ → Bool) → List ℕ → List ℕ
keep f [] = []
keep f (x ∷ xs) = cond (f x) (x ∷ keep f xs) (keep f xs)

unfoldable pub is_in : ℕ → List ℕ → Bool
is_in p [] = false
is_in p (x ∷ xs) = eqb p x || is_in p xs

-- 'A bus has 10 requesters, 0 to 9'
abbrev pub requesters : List ℕ
requesters = up_from 0 10

-- 'in a high and a low group, by a mask (bit set: high)'
abbrev pub high_members : ℕ → List ℕ
high_members mask = keep (λ i. mask has i) requesters

abbrev pub low_members : ℕ → List ℕ
low_members mask = keep (λ i. not (mask has i)) requesters

-- 'the low place as 10, none yet as 15'; 15 is also nobody, where no place requests
abbrev pub low_place : ℕ
low_place = 10

abbrev pub none : ℕ
none = 15

-- a place that may be none, as an option
abbrev pub place_named : ℕ → Option ℕ
place_named n = cond (eqb n none) None (Some n)

-- 'The high ring has the high members by number and, last, one place for the whole low group', also where the group is empty
abbrev pub high_ring : ℕ → List ℕ
high_ring mask = high_members mask ++ (low_place ∷ [])

abbrev pub low_ring : ℕ → List ℕ
low_ring mask = low_members mask

-- a ring from the place after the last one granted, going round: that place comes last. 'At first both rings stand before their lowest
-- place': none yet is above every place, so that the ring is as it stands
unfoldable pub onwards : ℕ → List ℕ → List ℕ
onwards last ring = keep (λ p. ltb last p) ring ++ keep (λ p. leb p last) ring

-- the first place of a list that passes a test
unfoldable pub first_of : (ℕ → Bool) → List ℕ → ℕ
first_of f [] = none
first_of f (x ∷ xs) = cond (f x) x (first_of f xs)

-- 'the next requesting place after the last one granted'
abbrev pub next_after : (ℕ → Bool) → ℕ → List ℕ → ℕ
next_after requests last ring = first_of requests (onwards last ring)
