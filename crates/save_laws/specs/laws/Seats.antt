-- The seat records of a saved file: after them the reading has the grants.
use Rattle.std.proofs.Math.Path.{◌≡◌, refl, sym}
use Rattle.std.proofs.Common.{ap, ◌∙◌}
use Rattle.std.specs.Prelude.{Bool, true, false, ◌&&◌, ◌||◌, List, ◌++◌, ℕ, ◌+◌, ◌≤◌, ◌<◌}
use Rattle.std.proofs.Math.Bool.{cond}
use native.Mathlib.Omega.{arith}
use Rattle.std.proofs.Math.Dec.{ltb, eqb}
use Rattle.std.proofs.Math.ListN.{length}
use borrow.Author.Tests.{lt-ltb, le-ltb, ltb-true, ltb-false, eqb-true, eqb-false, eq-eqb, lt-leb}
use Rattle.rack.specs.declared.Grant.{Grant}
use Rattle.rack.specs.definitions.Tree.{Tree}
use Rattle.rack.specs.laws.Bools.{tested, both, neither}
use Rattle.seat.specs.definitions.Grants.{Grants, no_grant, no_grants, seat_wrong, granting}
use Rattle.seat.specs.laws.Stored.{grants_same}
use Rattle.file_record.specs.definitions.Load.{Reading}
use Rattle.file_save.specs.definitions.Saved.{seat_bytes, seat_of, seats_of}
use Rattle.save_laws.specs.definitions.Said.{SaidGrants}
use Rattle.save_laws.specs.laws.Here.{Here}
use Rattle.save_laws.specs.laws.Goes.{Goes, goes_same, goes_on, goes_each}
use Rattle.save_laws.specs.laws.Records.{before, seat_goes}

-- a pair that is none of a seat and a node of the rack is not named
pub not_named : (count : ℕ) (g : Grants) → SaidGrants count g → (seat node : ℕ) → ((1 ≤ seat) × (seat ≤ 15) × (node < count) → ⊥)
    → g.grant seat node ≡ no_grant
not_named count g said seat node n =
    tested (g.grant seat node).named (λ q. absurd (n (said.named seat node q))) (λ q. said.unnamed seat node q)

module _ (t : Tree) (g : Grants) (said : SaidGrants t.count g) where
  -- the grants of the seats before one, and of that seat's nodes before one
  earlier : ℕ → ℕ → ℕ → ℕ → Bool
  earlier seat node s n = ltb s seat || (eqb s seat && ltb n node)

  up_to : ℕ → ℕ → Grants
  up_to seat node = record { grant = λ s n. cond (earlier seat node s n) (g.grant s n) no_grant; wrong = false }

  -- the pair itself is not among them
  own_later : (seat node : ℕ) → earlier seat node seat node ≡ false
  unfolding earlier
  own_later seat node = rw (le-ltb seat seat (omega arith), le-ltb node node (omega arith), eq-eqb seat seat refl)

  -- one pair more
  with_pair : (seat node s n : ℕ)
      → (up_to seat (node + 1)).grant s n ≡ cond (eqb s seat && eqb n node) (g.grant seat node) ((up_to seat node).grant s n)
  unfolding up_to earlier
  with_pair seat node s n =
      tested (eqb s seat)
      (λ q.
      let e = eqb-true s seat q in
      tested (eqb n node)
      (λ w.
      let d = eqb-true n node w in
      rw (e, d, eq-eqb seat seat refl, eq-eqb node node refl, le-ltb seat seat (omega arith), lt-ltb node (node + 1) (omega arith)))
      (λ w.
      let ne = eqb-false n node w in
      let same : ltb n (node + 1) ≡ ltb n node =
      tested (ltb n node) (λ l. lt-ltb n (node + 1) (omega (arith, ltb-true n node l)) ∙ sym l)
      (λ l. le-ltb n (node + 1) (omega (arith, ltb-false n node l, ne)) ∙ sym l) in
      rw (q, w, same)))
      (λ q. rw q)

  module _ (seat node : ℕ) where
    -- a named pair has a record, which is right; a pair that is not named has none
    pair_right : 1 ≤ seat → seat ≤ 15 → node < t.count
        → seat_wrong t.count (up_to seat node) (record { seat = seat; node = node; mask = (g.grant seat node).mask }) ≡ false
    unfolding seat_wrong up_to
    pair_right a l n =
        rw (lt-leb t.count node n, le-ltb seat 1 a, le-ltb 15 seat l, own_later seat node)

    pair_granted : (g.grant seat node).named ≡ true
        → granting (up_to seat node) (record { seat = seat; node = node; mask = (g.grant seat node).mask }) ≡ up_to seat (node + 1)
    unfolding up_to
    pair_granted q =
        let own : ◌≡◌ {A = Grant} (record { named = true; mask = (g.grant seat node).mask }) (g.grant seat node) = rw (← q) in
        grants_same (λ s n. rw own (sym (with_pair seat node s n))) refl

    pair_none : (g.grant seat node).named ≡ false → up_to seat node ≡ up_to seat (node + 1)
    unfolding up_to
    pair_none q =
        grants_same
        (λ s n.
        sym (with_pair seat node s n
        ∙ tested (eqb s seat && eqb n node)
        (λ w.
        let own = both (eqb s seat) (eqb n node) w in
        rw w (said.unnamed seat node q ∙ rw (eqb-true s seat own.0, eqb-true n node own.1, own_later seat node)))
        (λ w. rw w)))
        refl

    pair_goes : (b : List ℕ) (o : ℕ) (y : List ℕ) → 0 < o → 1 ≤ seat → seat ≤ 15 → node < t.count
        → Here b o (seat_bytes g seat node ++ y)
        → Goes b (before o 0 0 t (up_to seat node)) (before (o + length (seat_bytes g seat node)) 0 0 t (up_to seat (node + 1)))
    unfolding seat_bytes
    pair_goes b o y after a l n h =
        tested (g.grant seat node).named
        (λ q.
        let mask = (g.grant seat node).mask in
        rw (q, ← pair_granted q) (seat_goes b o t (up_to seat node) y after seat node mask (rw q at h) (pair_right a l n)))
        (λ q. let o' : o ≡ o + 0 = omega arith in rw q (goes_same b (rw (← o', pair_none q))))

  none : (w : Bool) (s n : ℕ) → no_grant ≡ cond (w && false) (g.grant s n) no_grant
  none true s n = refl
  none false s n = refl

  -- the records of a seat end where those of the next begin
  seat_ends : (seat : ℕ) → up_to seat t.count ≡ up_to (seat + 1) 0
  unfolding up_to earlier
  seat_ends seat = grants_same same refl
    where
      same : (s n : ℕ)
          → cond (earlier seat t.count s n) (g.grant s n) no_grant ≡ cond (earlier (seat + 1) 0 s n) (g.grant s n) no_grant
      same s n =
          rw (le-ltb n 0 (omega arith))
          (tested (eqb s seat)
          (λ q.
          let e = eqb-true s seat q in
          rw (q, le-ltb s seat (omega arith), lt-ltb s (seat + 1) (omega arith))
          (tested (ltb n t.count) (λ l. rw l)
          (λ l. rw l (sym (not_named t.count g said s n (λ p. omega (arith, p.2, ltb-false n t.count l)))))))
          (λ q.
          let ne = eqb-false s seat q in
          tested (ltb s seat)
          (λ l. rw (l, lt-ltb s (seat + 1) (omega (arith, ltb-true s seat l))))
          (λ l.
          let m : seat + 1 ≤ s = omega (arith, ne, ltb-false s seat l) in
          rw (q, l, le-ltb s (seat + 1) m) (none (eqb s (seat + 1)) s n))))

  -- before the first seat nothing is granted, and after the last all that is
  seats_start : no_grants ≡ up_to 1 0
  unfolding up_to earlier
  seats_start = grants_same same refl
    where
      same : (s n : ℕ) → no_grant ≡ cond (earlier 1 0 s n) (g.grant s n) no_grant
      same s n =
          tested (ltb s 1) (λ q. rw q (sym (not_named t.count g said s n (λ p. omega (arith, p.0, ltb-true s 1 q)))))
          (λ q. rw (q, le-ltb n 0 (omega arith)) (none (eqb s 1) s n))

  seats_end : up_to 16 0 ≡ g
  unfolding up_to earlier
  seats_end = grants_same same (sym said.right)
    where
      same : (s n : ℕ) → cond (earlier 16 0 s n) (g.grant s n) no_grant ≡ g.grant s n
      same s n =
          tested (earlier 16 0 s n) (λ q. rw q)
          (λ q. rw q (sym (not_named t.count g said s n (λ p. omega (arith, p.1, ltb-false s 16 (neither (ltb s 16) _ q).0)))))

  module _ (b : List ℕ) where
    pairs : ℕ → ℕ → ℕ → Reading
    pairs seat o node = before o 0 0 t (up_to seat node)

    seat_go : (seat o : ℕ) (y : List ℕ) → 1 ≤ o → 1 ≤ seat → seat < 16 → Here b o (seat_of t g seat ++ y)
        → Goes b (pairs seat o 0) (pairs (seat + 1) (o + length (seat_of t g seat)) 0)
    unfolding pairs
    seat_go seat o y after a l h =
        rw (← seat_ends seat)
        (goes_each b (seat_bytes g seat) (pairs seat) 1 0 t.count
        (λ o node y low z n h. pair_goes seat node b o y low a (omega arith) n h)
        o 0 t.count y after (omega arith) (omega arith) h)

    pub seats_go : (o : ℕ) (y : List ℕ) → 0 < o → Here b o (seats_of t g ++ y)
        → Goes b (before o 0 0 t no_grants) (before (o + length (seats_of t g)) 0 0 t g)
    unfolding pairs
    seats_go o y after h =
        goes_on b (goes_same b (ap (before o 0 0 t) seats_start))
        (goes_on b
        (goes_each b (seat_of t g) (λ o seat. pairs seat o 0) 1 1 16 (λ o seat y low a l h. seat_go seat o y low a l h)
        o 1 15 y after (omega arith) refl h)
        (goes_same b (ap (before (o + length (seats_of t g)) 0 0 t) seats_end)))
