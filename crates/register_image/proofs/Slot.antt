-- The 64 bytes at a place of an image, as the code takes them out and puts them back.
use mathlib.Core.Path.{◌≡◌, refl, sym, ◌∙◌}
use lib.Dec.{ltb}
use Rattle.std.proofs.lemmas.Bool.{ltb-true, ltb-false}
use Rattle.rack.specs.laws.Bools.{tested}
use mathlib.Core.List.{List, []}
use Rattle.std.specs.Prelude.{Some, None}
use Prim.Native.Nat.{ℕ, ◌+◌, ◌-◌, ◌*◌, ◌/◌, ◌<◌, ◌≤◌}
use native.Mathlib.Omega.{arith}
use borrow.Author.Tests.{lt-ltb, le-ltb}
use borrow.Rule.Slice.PartMut.{put_mid, put_same}
use lib.ListN.{length, take, drop}
use lib.Seq.{drop-drop}
use Rattle.std.proofs.Common.{length-take, length-drop}
use Rattle.register_image.specs.definitions.Image.{node_part, in_part, on_part}

width : (p : ℕ) → 64 * p + 64 - 64 * p ≡ 64
width p = omega arith

-- each part has 64 bytes
pub long : (l : List ℕ) (p : ℕ) → p < length l / 64 → length (take (64 * p + 64 - 64 * p) (drop (64 * p) l)) ≡ 64
long l p h = grind (arith, length-take, length-drop)

-- the part that is taken out; past the last there is none
pub inside : (l : List ℕ) (p : ℕ) → p < length l / 64 → take (64 * p + 64 - 64 * p) (drop (64 * p) l) ≡ node_part l p
unfolding node_part
inside l p h = rw (lt-ltb p (length l / 64) h, width p)

pub outside : (l : List ℕ) (p : ℕ) → length l / 64 ≤ p → [] ≡ node_part l p
unfolding node_part
outside l p h = rw (le-ltb p (length l / 64) h)

-- a part that was lent to a function comes back in its place; past the last the image stays
pub put_back : (l : List ℕ) (p : ℕ) (f : List ℕ → List ℕ) {q : List ℕ} → p < length l / 64
    → q ≡ f (take (64 * p + 64 - 64 * p) (drop (64 * p) l))
    → put_mid (64 * p) (64 * p + 64 - 64 * p) l q ≡ on_part l p f
unfolding on_part
put_back l p f h e = rw (e, width p, lt-ltb p (length l / 64) h, drop-drop 64 (64 * p) l)

pub untouched : (l : List ℕ) (p : ℕ) (f : List ℕ → List ℕ) → length l / 64 ≤ p → l ≡ on_part l p f
unfolding on_part
untouched l p f h = rw (le-ltb p (length l / 64) h)

-- one that came back as it was leaves the image as it was
pub same_part : (l : List ℕ) (p : ℕ) {q : List ℕ} → q ≡ take (64 * p + 64 - 64 * p) (drop (64 * p) l)
    → put_mid (64 * p) (64 * p + 64 - 64 * p) l q ≡ l
same_part l p e = rw e (put_same (64 * p) (64 * p + 64 - 64 * p) l)

-- what was found in a part that was lent; past the last nothing is
pub found : {A : Type 0} (l : List ℕ) (p : ℕ) (f : List ℕ → A) {r : A} → p < length l / 64
    → r ≡ f (take (64 * p + 64 - 64 * p) (drop (64 * p) l)) → Some r ≡ in_part l p f
unfolding in_part node_part
found l p f h e = rw (e, width p, lt-ltb p (length l / 64) h)

pub found_none : {A : Type 0} (l : List ℕ) (p : ℕ) (f : List ℕ → A) → length l / 64 ≤ p → None ≡ in_part l p f
unfolding in_part
found_none l p f h = rw (le-ltb p (length l / 64) h)

-- a part that stays leaves the image as it was
pub on_same : (l : List ℕ) (p : ℕ) → on_part l p (λ part. part) ≡ l
on_same l p =
    tested (ltb p (length l / 64)) (λ q. sym (put_back l p (λ part. part) (ltb-true _ _ q) refl) ∙ same_part l p refl)
    (λ q. sym (untouched l p (λ part. part) (ltb-false _ _ q)))
