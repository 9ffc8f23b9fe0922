-- The ISA and the VGA rule, which repeat every 1 KiB below 64 KiB: what they say stays the same up to the cut of its block.
use Rattle.std.specs.Prelude.{◌≡◌, refl, Bool, true, false, not, ◌&&◌, ◌||◌, ℕ, suc, ◌+◌, ◌-◌, ◌/◌, ◌%◌, ◌≤◌, ◌<◌, leb, ltb, eqb}
use Rattle.std.proofs.Common.{ap, ap₂, ◌∙◌, le_trans, arith, le-ltb, leb-true, leb-false, eqb-true, eq-eqb, ne_eqb}
use Rattle.std.proofs.lemmas.Bool.{false≢true, lt-leb, eqb-false}
use Rattle.rack.specs.laws.Bools.{tested}
use Rattle.claim_window.specs.definitions.Range.{range, within}
use Rattle.claim_window.specs.definitions.Cut.{cut_if, cut_block, cut_low}
use Rattle.claim_laws.specs.laws.Kept.{at_kept, leb_by}

-- a cut that is made where `on` says so
if_low : (on : Bool) (at a e : ℕ) → a ≤ e → a ≤ cut_if on at a e
unfolding cut_if
if_low true at a e h = (at_kept at a e).low h
if_low false at a e h = h

if_high : (on : Bool) (at a e : ℕ) → cut_if on at a e ≤ e
unfolding cut_if
if_high true at a e = (at_kept at a e).high
if_high false at a e = omega arith

if_side : {on : Bool} (at a e x : ℕ) → on ≡ true → a ≤ x → x ≤ cut_if on at a e → a < at → x < at
unfolding cut_if
if_side {on = true} at a e x o h l q = leb-false at x ((at_kept at a e).same x h l ∙ lt-leb at a q)
if_side {on = false} at a e x o h l q = absurd (false≢true o)

eqb_by : (p q : ℕ) → (q ≡ 0 → p ≡ 0) → (p ≡ 0 → q ≡ 0) → eqb p 0 ≡ eqb q 0
eqb_by p q f g =
    tested (eqb q 0) (λ e. rw (e, eq-eqb p 0 (f (eqb-true q 0 e)))) (λ e. rw (e, ne_eqb p 0 (λ z. eqb-false q 0 e (g z))))

-- what the two rules ask of an address
abbrev isa_test : ℕ → Bool
isa_test x = ltb x 0x10000 && not (eqb (x / 256 % 4) 0)

abbrev vga_test : Bool → ℕ → Bool
vga_test vga16 x =
    ltb x 0x10000
    && ((within (range 0x3B0 0x3BB) (x % 1024) || within (range 0x3C0 0x3DF) (x % 1024))
    && (not vga16 || eqb (x / 1024 % 64) 0))

-- x is in a's block, and on a's side of each place where the rule changes its answer
module _ (a x : ℕ) (low : a < 0x10000) (h : a ≤ x) (top : x < (a - a % 1024) + 0x400) where
  isa_same : (a < (a - a % 1024) + 0x100 → x < (a - a % 1024) + 0x100) → isa_test x ≡ isa_test a
  isa_same s =
      ap₂ (λ (p q : Bool). p && not q) (leb_by (suc x) 0x10000 (suc a) 0x10000 (λ z. omega arith) (λ z. omega arith))
      (eqb_by (x / 256 % 4) (a / 256 % 4) (λ z. let k = s (omega arith) in omega arith) (λ z. omega arith))

  low_same : (c : ℕ) → c ≤ 0x400 → (a < (a - a % 1024) + c → x < (a - a % 1024) + c) → leb c (x % 1024) ≡ leb c (a % 1024)
  low_same c b s = leb_by c (x % 1024) c (a % 1024) (λ z. omega arith) (λ z. let k = s (omega arith) in omega arith)

  high_same : (c : ℕ) → c ≤ 0x3FF → (a < (a - a % 1024) + (c + 1) → x < (a - a % 1024) + (c + 1))
      → leb (x % 1024) c ≡ leb (a % 1024) c
  high_same c b s = leb_by (x % 1024) c (a % 1024) c (λ z. let k = s (omega arith) in omega arith) (λ z. omega arith)

  vga_same : (vga16 : Bool) → (a < (a - a % 1024) + 0x3B0 → x < (a - a % 1024) + 0x3B0)
      → (a < (a - a % 1024) + 0x3BC → x < (a - a % 1024) + 0x3BC)
      → (a < (a - a % 1024) + 0x3C0 → x < (a - a % 1024) + 0x3C0)
      → (a < (a - a % 1024) + 0x3E0 → x < (a - a % 1024) + 0x3E0) → vga_test vga16 x ≡ vga_test vga16 a
  vga_same vga16 s1 s2 s3 s4 =
      let block : x / 1024 ≡ a / 1024 = omega arith in
      ap₂ ◌&&◌ (leb_by (suc x) 0x10000 (suc a) 0x10000 (λ z. omega arith) (λ z. omega arith))
      (ap₂ ◌&&◌
      (ap₂ ◌||◌
      (ap₂ ◌&&◌ (low_same 0x3B0 (omega arith) s1) (high_same 0x3BB (omega arith) s2))
      (ap₂ ◌&&◌ (low_same 0x3C0 (omega arith) s3) (high_same 0x3DF (omega arith) s4)))
      (ap (λ (t : ℕ). not vga16 || eqb (t % 64) 0) block))

or_left : (s t : Bool) → s ≡ true → (s || t) ≡ true
or_left true t e = refl
or_left false t e = absurd (false≢true e)

or_right : (s t : Bool) → t ≡ true → (s || t) ≡ true
or_right true t e = refl
or_right false t e = e

on_only : (s p q : Bool) → (s ≡ true → p ≡ q) → (s && p) ≡ (s && q)
on_only true p q h = h refl
on_only false p q h = refl

-- what both rules say stays the same from a to r
pub record Rules (isa vga : Bool) (a e r : ℕ) : Type 0 where
  pub low : a ≤ e → a ≤ r
  pub high : r ≤ e
  pub isas : (x : ℕ) → a ≤ x → x ≤ r → (isa && isa_test x) ≡ (isa && isa_test a)
  pub vgas : (vga16 : Bool) (x : ℕ) → a ≤ x → x ≤ r → (vga && vga_test vga16 x) ≡ (vga && vga_test vga16 a)

block_rules : (isa vga : Bool) (a e : ℕ) → a < 0x10000 → Rules isa vga a e (cut_block isa vga (a - a % 1024) a e)
block_rules isa vga a e q =
    let b = a - a % 1024 in
    let e1 = cut_if isa (b + 0x100) a e in
    let e2 = cut_if vga (b + 0x3B0) a e1 in
    let e3 = cut_if vga (b + 0x3BC) a e2 in
    let e4 = cut_if vga (b + 0x3C0) a e3 in
    let e5 = cut_if vga (b + 0x3E0) a e4 in
    let h1 : e1 ≤ e = if_high isa (b + 0x100) a e in
    let h2 : e2 ≤ e1 = if_high vga (b + 0x3B0) a e1 in
    let h3 : e3 ≤ e2 = if_high vga (b + 0x3BC) a e2 in
    let h4 : e4 ≤ e3 = if_high vga (b + 0x3C0) a e3 in
    let h5 : e5 ≤ e4 = if_high vga (b + 0x3E0) a e4 in
    let h6 : cut_if (isa || vga) (b + 0x400) a e5 ≤ e5 = if_high (isa || vga) (b + 0x400) a e5 in
    record {
      low = λ l.
          if_low (isa || vga) (b + 0x400) a e5
          (if_low vga (b + 0x3E0) a e4
          (if_low vga (b + 0x3C0) a e3 (if_low vga (b + 0x3BC) a e2 (if_low vga (b + 0x3B0) a e1 (if_low isa (b + 0x100) a e l)))));
      high = le_trans h6 (le_trans h5 (le_trans h4 (le_trans h3 (le_trans h2 h1))));
      isas = λ x l m.
          let m5 = le_trans m h6 in
          let m1 = le_trans m5 (le_trans h5 (le_trans h4 (le_trans h3 h2))) in
          on_only isa (isa_test x) (isa_test a)
          (λ o.
          isa_same a x q l (if_side (b + 0x400) a e5 x (or_left isa vga o) l m (omega arith)) (if_side (b + 0x100) a e x o l m1));
      vgas = λ vga16 x l m.
          let m5 = le_trans m h6 in
          let m4 = le_trans m5 h5 in
          let m3 = le_trans m4 h4 in
          let m2 = le_trans m3 h3 in
          on_only vga (vga_test vga16 x) (vga_test vga16 a)
          (λ o.
          vga_same a x q l (if_side (b + 0x400) a e5 x (or_right isa vga o) l m (omega arith)) vga16
          (if_side (b + 0x3B0) a e1 x o l m2) (if_side (b + 0x3BC) a e2 x o l m3) (if_side (b + 0x3C0) a e3 x o l m4)
          (if_side (b + 0x3E0) a e4 x o l m5));
    }

far_rules : (isa vga : Bool) (a e : ℕ) → 0x10000 ≤ a → Rules isa vga a e e
far_rules isa vga a e h =
    record {
      low = λ l. l;
      high = omega arith;
      isas = λ x l m. let hx : 0x10000 ≤ x = omega arith in simp (le-ltb x 0x10000 hx, le-ltb a 0x10000 h);
      vgas = λ vga16 x l m. let hx : 0x10000 ≤ x = omega arith in simp (le-ltb x 0x10000 hx, le-ltb a 0x10000 h);
    }

-- the cut of both rules, below 64 KiB and above
pub low_rules : (isa vga : Bool) (a e : ℕ) → Rules isa vga a e (cut_low isa vga a e)
unfolding cut_low
low_rules isa vga a e =
    tested (leb 0x10000 a) (λ p. rw p (far_rules isa vga a e (leb-true 0x10000 a p)))
    (λ p. rw p (block_rules isa vga a e (leb-false 0x10000 a p)))
