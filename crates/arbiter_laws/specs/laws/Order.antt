-- The order in which the places of a ring are tried, and how many stand ahead of one.
use Rattle.std.specs.Prelude.{◌≡◌, refl, ◌⊎◌, ℕ, ◌+◌, ◌-◌, ◌%◌, ◌≤◌, ◌<◌, Bool, true, false, ◌&&◌, List}
use Rattle.std.proofs.Common.{sym, ap, subst, ◌∙◌, inr, ⊎_elim, lt_irrefl, arith}
use Rattle.std.proofs.Math.Logic.{⊎_map}
use Rattle.std.proofs.lemmas.Bool.{false≢true}
use Rattle.std.proofs.Math.Bool.{and-eq-true_iff}
use Rattle.std.proofs.Math.Dec.{ltb}
use borrow.Author.Tests.{lt-ltb, le-ltb, ltb-true, ltb-false, eq-eqb, ne_eqb}
use Rattle.arbiter.specs.definitions.Rings.{up_from, keep, is_in, none, onwards, first_of, next_after}
use Rattle.rack.specs.laws.Bools.{tested}
use Rattle.arbiter.specs.laws.Search.{Nobody, Found, searched, round, first_ring}
use Rattle.arbiter_laws.specs.laws.Count.{count, count_one, count_lt, count_none}

-- when a place is tried after `last`: on a clock of sixteen hours, on which none yet, 15, stands just before 0
unfoldable pub hour : ℕ → ℕ → ℕ
hour last p = (p + (15 - last)) % 16

above : (last p : ℕ) → p < 11 → last < p → hour last p ≡ p - (last + 1)
unfolding hour
above last p lt h = omega arith

others : (last p : ℕ) → p < 11 → p ≤ last → hour last p ≡ p + (15 - last)
unfolding hour
others last p lt h = omega arith

-- the place found: none that passes is tried before it
pub record Next (f : ℕ → Bool) (last q : ℕ) : Type 0 where
  pub place : q < 11
  pub passes : f q ≡ true
  pub earliest : (p : ℕ) → p < 11 → f p ≡ true → hour last q ≤ hour last p

both_ways : {A : Type 0} {b : Bool} → b ≡ false → b ≡ true → A
both_ways e t = absurd (false≢true (sym e ∙ t))

module _ (f : ℕ → Bool) (last : ℕ) where
  found_above : (q : ℕ) → Found f (last + 1) (11 - (last + 1)) q → Next f last q
  found_above q h =
      let place : q < 11 = omega (arith, h.below, h.from) in
      let at : hour last q ≡ q - (last + 1) = above last q place (omega (arith, h.from)) in
      record {
        place = place;
        passes = h.passes;
        earliest = λ p lt e.
            tested (ltb last p)
            (λ j. let more : last < p = ltb-true last p j in
            tested (ltb p q)
            (λ k. both_ways (h.first p (omega arith) (ltb-true p q k)) e)
            (λ k. omega (arith, at, above last p lt more, ltb-false p q k)))
            (λ j. let less : p ≤ last = ltb-false last p j in omega (arith, at, others last p lt less, h.from));
      }

  found_again : (a q : ℕ) → Nobody f (last + 1) (11 - (last + 1)) a → Found f 0 11 q → Next f last q
  found_again a q n h =
      let upto : (p : ℕ) → p < 11 → f p ≡ true → p ≤ last =
      λ p lt e.
      tested (ltb last p)
      (λ j. let more : last < p = ltb-true last p j in both_ways (n.fails p (omega arith) (omega arith)) e)
      (ltb-false last p) in
      record {
        place = h.below;
        passes = h.passes;
        earliest = λ p lt e.
            tested (ltb p q)
            (λ k. both_ways (h.first p (omega arith) (ltb-true p q k)) e)
            (λ k. omega (arith, others last q h.below (upto q h.below h.passes), others last p lt (upto p lt e), ltb-false p q k));
      }

  -- a search that goes round finds the place that is tried first of those that pass, or none does
  pub found_next : Nobody f 0 11 (first_of f (onwards last (up_from 0 11))) ⊎ Next f last (first_of f (onwards last (up_from 0 11)))
  found_next =
      rw (round f last)
      (⊎_elim
      (λ (n : Nobody f (last + 1) (11 - (last + 1)) (first_of f (up_from (last + 1) (11 - (last + 1))))).
      rw (eq-eqb (first_of f (up_from (last + 1) (11 - (last + 1)))) none n.is_none)
      (⊎_map (λ (m : Nobody f 0 11 (first_of f (up_from 0 11))). m)
      (λ (h : Found f 0 11 (first_of f (up_from 0 11))).
      found_again (first_of f (up_from (last + 1) (11 - (last + 1)))) (first_of f (up_from 0 11)) n h)
      (searched f 11 0)))
      (λ (h : Found f (last + 1) (11 - (last + 1)) (first_of f (up_from (last + 1) (11 - (last + 1))))).
      rw (ne_eqb (first_of f (up_from (last + 1) (11 - (last + 1)))) none (λ e. omega (arith, h.below, h.from)))
      (inr (found_above (first_of f (up_from (last + 1) (11 - (last + 1)))) h)))
      (searched f (11 - (last + 1)) (last + 1)))

-- a ring's next place: of those in it that request
pub ring_next : (requests : ℕ → Bool) (last : ℕ) (ring : List ℕ) → ring ≡ keep (λ p. is_in p ring) (up_from 0 11)
    → Nobody (λ p. is_in p ring && requests p) 0 11 (next_after requests last ring)
    ⊎ Next (λ p. is_in p ring && requests p) last (next_after requests last ring)
ring_next requests last ring kept =
    let at : next_after requests last ring ≡ first_of (λ p. is_in p ring && requests p) (onwards last (up_from 0 11)) =
    ap (λ (r : List ℕ). first_of requests (onwards last r)) kept ∙ first_ring requests (λ p. is_in p ring) last (up_from 0 11) in
    rw at (found_next (λ p. is_in p ring && requests p) last)

-- how many places stand ahead of one: those that can request and are tried before it
unfoldable pub ahead : ℕ → (ℕ → Bool) → ℕ → ℕ
ahead last live p = count (λ q. live q && ltb (hour last q) (hour last p)) 0 11

-- the order after a grant to q: those that came after it keep theirs
moved : (last q p : ℕ) → q < 11 → p < 11 → hour last q < hour last p → hour q p ≡ hour last p - (hour last q + 1)
unfolding hour
moved last q p hq hp before = omega arith

kept_order : (last q p r : ℕ) → q < 11 → p < 11 → r < 11 → hour last q < hour last p → hour q r < hour q p → hour last r < hour last p
kept_order last q p r hq hp hr before after =
    tested (ltb (hour last q) (hour last r))
    (λ k. let h : hour last q < hour last r = ltb-true (hour last q) (hour last r) k in
    omega (arith, moved last q p hq hp before, moved last q r hq hr h))
    (λ k. omega (arith, ltb-false (hour last q) (hour last r) k))

same_order : (last q p r : ℕ) → q < 11 → p < 11 → r < 11 → hour last q < hour last r → hour last r < hour last p → hour q r < hour q p
same_order last q p r hq hp hr before after =
    omega (arith, moved last q p hq hp (omega arith), moved last q r hq hr before)

other_hour : (last q p : ℕ) → q < 11 → p < 11 → (q ≡ p → ⊥) → hour last q ≤ hour last p → hour last q < hour last p
unfolding hour
other_hour last q p hq hp ne le = omega arith

last_hour : (q p : ℕ) → q < 11 → p < 11 → (p ≡ q → ⊥) → hour q p < hour q q
unfolding hour
last_hour q p hq hp ne = omega arith

module _ (live : ℕ → Bool) (last p q : ℕ) (hp : p < 11) (hq : q < 11) (lq : live q ≡ true) (before : hour last q < hour last p) where
  abbrev was : ℕ → Bool
  was r = live r && ltb (hour last r) (hour last p)

  abbrev is : ℕ → Bool
  is r = live r && ltb (hour q r) (hour q p)

  gone : is q ≡ false
  gone =
      let other : p ≡ q → ⊥ = λ e. lt_irrefl (hour last q) (subst (λ (x : ℕ). hour last q < hour last x) e before) in
      rw (lq, le-ltb (hour q q) (hour q p) (omega (arith, last_hour q p hq hp other)))

  there : was q ≡ true
  there = rw (lq, lt-ltb (hour last q) (hour last p) before) refl

  -- a grant to a place ahead of p leaves fewer ahead of it
  fewer_ahead : ahead q live p < ahead last live p
  unfolding ahead
  fewer_ahead =
      count_lt is was q 11 0 (omega arith) hq gone there (λ r ge lt e.
      let k = (and-eq-true_iff (live r) (ltb (hour q r) (hour q p))).0 e in
      rw (k.0, lt-ltb (hour last r) (hour last p) (kept_order last q p r hq hp lt before (ltb-true (hour q r) (hour q p) k.1))))

  -- one fewer, where every place that can requests
  one_fewer : ((r : ℕ) → r < 11 → live r ≡ true → hour last q ≤ hour last r) → ahead q live p + 1 ≡ ahead last live p
  unfolding ahead
  one_fewer all =
      count_one is was q 11 0 (omega arith) hq gone there (λ r ge lt ne.
      tested (live r)
      (λ k. let after : hour last q < hour last r = other_hour last q r hq lt (λ e. ne (sym e)) (all r lt k) in
      tested (ltb (hour last r) (hour last p))
      (λ j. rw (k, j, lt-ltb (hour q r) (hour q p) (same_order last q p r hq hp lt after (ltb-true (hour last r) (hour last p) j))))
      (λ j. rw (k, j) (tested (ltb (hour q r) (hour q p))
      (λ i. let h = kept_order last q p r hq hp lt before (ltb-true (hour q r) (hour q p) i) in
      absurd (omega (arith, h, ltb-false (hour last r) (hour last p) j)))
      (λ i. i))))
      (λ k. rw k))

module _ (live : ℕ → Bool) (last p : ℕ) (hp : p < 11) where
  -- a place that can request is not ahead of itself
  pub ahead_lt : live p ≡ true → ahead last live p < count live 0 11
  unfolding ahead
  ahead_lt lp =
      count_lt (λ r. live r && ltb (hour last r) (hour last p)) live p 11 0 (omega arith) hp
      (rw (lp, le-ltb (hour last p) (hour last p) (omega arith))) lp
      (λ r ge lt e. ((and-eq-true_iff (live r) (ltb (hour last r) (hour last p))).0 e).0)

  -- all others are ahead of the place that was granted last
  pub all_ahead : live p ≡ true → ahead p live p + 1 ≡ count live 0 11
  unfolding ahead
  all_ahead lp =
      count_one (λ r. live r && ltb (hour p r) (hour p p)) live p 11 0 (omega arith) hp
      (rw (lp, le-ltb (hour p p) (hour p p) (omega arith))) lp
      (λ r ge lt ne. tested (live r) (λ k. rw (k, lt-ltb (hour p r) (hour p p) (last_hour p r hp lt ne))) (λ k. rw k))

  -- none is ahead of the one that is tried first
  none_ahead : ((r : ℕ) → r < 11 → live r ≡ true → hour last p ≤ hour last r) → ahead last live p ≡ 0
  unfolding ahead
  none_ahead all =
      count_none (λ r. live r && ltb (hour last r) (hour last p)) 11 0
      (λ r ge lt. tested (live r) (λ k. rw (k, le-ltb (hour last r) (hour last p) (all r lt k))) (λ k. rw k))

-- what a grant to q is for p, where every place that can requests: its own, and none was ahead of it, or one fewer is
pub record Exactly (live : ℕ → Bool) (last q p : ℕ) : Type 0 where
  pub own : q ≡ p → ahead last live p ≡ 0
  pub other : (q ≡ p → ⊥) → ahead q live p + 1 ≡ ahead last live p

-- q is granted while p requests; `live` are the places that can request
module _ (live asks : ℕ → Bool) (sub : (r : ℕ) → r < 11 → asks r ≡ true → live r ≡ true) {last q : ℕ} (n : Next asks last q)
    (p : ℕ) (hp : p < 11) (ask : asks p ≡ true) where
  before_it : (q ≡ p → ⊥) → hour last q < hour last p
  before_it ne = other_hour last q p n.place hp ne (n.earliest p hp ask)

  pub passed : (q ≡ p → ⊥) → ahead q live p < ahead last live p
  passed ne = fewer_ahead live last p q hp n.place (sub q n.place n.passes) (before_it ne)

  pub once : ((r : ℕ) → r < 11 → live r ≡ true → asks r ≡ true) → Exactly live last q p
  once all =
      let first : (r : ℕ) → r < 11 → live r ≡ true → hour last q ≤ hour last r = λ r lt lr. n.earliest r lt (all r lt lr) in
      record {
        own = λ e. none_ahead live last p hp (λ r lt lr. subst (λ (x : ℕ). hour last x ≤ hour last r) e (first r lt lr));
        other = λ ne. one_fewer live last p q hp n.place (sub q n.place n.passes) (before_it ne) first;
      }
