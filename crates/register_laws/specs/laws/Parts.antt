-- One part of one image changed: the image's length, that part, the other parts, and the bytes outside.
use Rattle.std.specs.Prelude.{◌≡◌, ◌≢◌, List, [], ◌++◌, ℕ, ◌+◌, ◌-◌, ◌*◌, ◌/◌, ◌≤◌, ◌<◌, ltb, length, take, drop, get_or}
use Rattle.std.proofs.Common.{sym, ap, ◌∙◌, arith, length-append, length-drop, length-take-le, take_at, drop_at, get_or-take, get_or-drop, get_or-append-add, ext_get_or, lt-ltb, le-ltb, ltb-true, ltb-false}
use Rattle.std.proofs.Math.ListN.{get_or-append}
use Rattle.register_image.specs.definitions.Image.{node_part, on_part}
use Rattle.rack.specs.laws.Bools.{tested}

-- past the last part there is none
pub part_past : (l : List ℕ) (p : ℕ) → length l / 64 ≤ p → node_part l p ≡ []
unfolding node_part
part_past l p h = rw (le-ltb p (length l / 64) h)

-- and nothing changes
pub on_past : (l : List ℕ) (p : ℕ) (f : List ℕ → List ℕ) → length l / 64 ≤ p → on_part l p f ≡ l
unfolding on_part
on_past l p f h = rw (le-ltb p (length l / 64) h)

module _ (l : List ℕ) (p : ℕ) (h : p < length l / 64) where
  part_is : node_part l p ≡ take 64 (drop (64 * p) l)
  unfolding node_part
  part_is = rw (lt-ltb p (length l / 64) h)

  -- a part has 64 bytes
  pub part_length : length (node_part l p) ≡ 64
  part_length = rw part_is (length-take-le 64 (drop (64 * p) l) (rw length-drop (omega arith)))

  -- and they are the image's from 64 * p on
  pub part_at : (k : ℕ) → k < 64 → get_or (node_part l p) k 0 ≡ get_or l (64 * p + k) 0
  part_at k hk = rw (part_is, get_or-take, get_or-drop)

  on_is : (f : List ℕ → List ℕ) → on_part l p f ≡ take (64 * p) l ++ (f (node_part l p) ++ drop (64 * p + 64) l)
  unfolding on_part
  on_is f = rw (lt-ltb p (length l / 64) h, part_is)

  head_length : length (take (64 * p) l) ≡ 64 * p
  head_length = length-take-le (64 * p) l (omega arith)

module _ (l : List ℕ) (p : ℕ) (f : List ℕ → List ℕ) (hf : p < length l / 64 → length (f (node_part l p)) ≡ 64) where
  -- a change of a part keeps the image's length
  pub on_length : length (on_part l p f) ≡ length l
  on_length =
      tested (ltb p (length l / 64))
      (λ q.
      let h : p < length l / 64 = ltb-true p _ q in
      rw (on_is l p h f, length-append, length-append, length-drop, head_length l p h, hf h) (omega arith))
      (λ q. ap length (on_past l p f (ltb-false p _ q)))

  -- the part that is changed
  pub on_same : p < length l / 64 → node_part (on_part l p f) p ≡ f (node_part l p)
  on_same h =
      part_is (on_part l p f) p (rw on_length h)
      ∙ rw (on_is l p h f, drop_at (take (64 * p) l) _ (64 * p) (head_length l p h)) (take_at (f (node_part l p)) _ 64 (hf h))

  -- bytes before the part stay
  pub on_before : (k : ℕ) → k < 64 * p → get_or (on_part l p f) k 0 ≡ get_or l k 0
  on_before k hk =
      tested (ltb p (length l / 64))
      (λ q.
      let h : p < length l / 64 = ltb-true p _ q in
      rw (on_is l p h f) (get_or-append (take (64 * p) l) _ 0 k (omega (arith, head_length l p h)) ∙ get_or-take (64 * p) l k 0 hk))
      (λ q. ap (λ (x : List ℕ). get_or x k 0) (on_past l p f (ltb-false p _ q)))

  -- bytes after the part stay
  pub on_behind : (k : ℕ) → 64 * p + 64 ≤ k → get_or (on_part l p f) k 0 ≡ get_or l k 0
  on_behind k hk =
      tested (ltb p (length l / 64))
      (λ q.
      let h : p < length l / 64 = ltb-true p _ q in
      let a = take (64 * p) l in
      let b = f (node_part l p) in
      let c = drop (64 * p + 64) l in
      let j = k - (64 * p + 64) in
      let e₁ : k ≡ length a + (64 + j) = omega (arith, head_length l p h) in
      let e₂ : 64 + j ≡ length b + j = omega (arith, hf h) in
      rw (on_is l p h f)
      (ap (λ (n : ℕ). get_or (a ++ (b ++ c)) n 0) e₁ ∙ get_or-append-add a (b ++ c) (64 + j) 0
      ∙ ap (λ (n : ℕ). get_or (b ++ c) n 0) e₂ ∙ get_or-append-add b c j 0
      ∙ get_or-drop (64 * p + 64) l j 0 ∙ ap (λ (n : ℕ). get_or l n 0) (omega arith)))
      (λ q. ap (λ (x : List ℕ). get_or x k 0) (on_past l p f (ltb-false p _ q)))

  -- the other parts stay
  pub on_other : (q : ℕ) → q ≢ p → node_part (on_part l p f) q ≡ node_part l q
  on_other q ne =
      tested (ltb q (length l / 64))
      (λ e.
      let h : q < length l / 64 = ltb-true q _ e in
      let h' : q < length (on_part l p f) / 64 = rw on_length h in
      let e' : length (node_part (on_part l p f) q) ≡ 64 = part_length (on_part l p f) q h' in
      ext_get_or 0 (node_part (on_part l p f) q) (node_part l q) (e' ∙ sym (part_length l q h))
      (λ k hk.
      let k64 : k < 64 = omega arith in
      part_at (on_part l p f) q h' k k64 ∙ stays q k ne k64 ∙ sym (part_at l q h k k64)))
      (λ e.
      let h : length l / 64 ≤ q = ltb-false q _ e in
      part_past (on_part l p f) q (rw on_length h) ∙ sym (part_past l q h))
    where
      stays : (q k : ℕ) → q ≢ p → k < 64 → get_or (on_part l p f) (64 * q + k) 0 ≡ get_or l (64 * q + k) 0
      stays q k ne hk =
          tested (ltb q p) (λ e. let h : q < p = ltb-true q p e in on_before (64 * q + k) (omega arith))
          (λ e. let h : p ≤ q = ltb-false q p e in on_behind (64 * q + k) (omega arith))
