-- Both ends of a window are in it, and what is next to them outside is not; a range is empty exactly where no address is in it.
use Rattle.std.specs.Prelude.{◌≡◌, refl, Bool, true, false, not, ◌&&◌, List, ℕ, ◌+◌, ◌-◌, ◌*◌, ◌/◌, ◌%◌, ◌^◌, ◌≤◌, ◌<◌, leb, ltb}
use Rattle.std.proofs.Common.{sym, ◌∙◌, true≢false, suc-mul, mul-le-mul_right, arith, pow_pos, le-leb, lt-ltb, le-ltb, leb-true, leb-false, ltb-true, ltb-false}
use Rattle.std.proofs.lemmas.Bool.{lt-leb}
use Rattle.rack.specs.laws.Bools.{tested, both}
use Rattle.register_header.specs.declared.Options.{Options}
use Rattle.register_header.specs.definitions.PciRegs.{IO_BASE, IO_LIMIT, IO_BASE_UPPER16, IO_LIMIT_UPPER16}
use Rattle.rack.specs.declared.Range.{Range}
use Rattle.claim_window.specs.definitions.Range.{within, is_empty, window}
use Rattle.claim_window.specs.definitions.Window.{io_granule, windows_of}
use Rattle.claim_window.specs.definitions.Inside.{in_io}

-- an address between the ends is within
pub is_within : (r : Range) (a : ℕ) → r.first ≤ a → a ≤ r.last → within r a ≡ true
is_within r a f l = rw (le-leb r.first a f, le-leb a r.last l)

-- and the converse
pub within_ends : (r : Range) (a : ℕ) → within r a ≡ true → (r.first ≤ a) × (a ≤ r.last)
within_ends r a e =
    let s = both (leb r.first a) (leb a r.last) e in
    (leb-true r.first a s.0, leb-true a r.last s.1)

-- one below the first is not
pub below_first : (r : Range) (a : ℕ) → a < r.first → within r a ≡ false
below_first r a h = rw (lt-leb r.first a h)

-- nor is one above the last
pub above_last : (r : Range) (a : ℕ) → r.last < a → within r a ≡ false
above_last r a h = rw (lt-leb a r.last h) (and_false (leb r.first a))
  where
    and_false : (b : Bool) → (b && false) ≡ false
    and_false true = refl
    and_false false = refl

-- none is where the ends are crossed
pub none_within : (r : Range) (a : ℕ) → r.last < r.first → within r a ≡ false
none_within r a h =
    tested (ltb a r.first) (λ q. below_first r a (ltb-true a r.first q))
    (λ q. above_last r a (omega (arith, ltb-false a r.first q)))

module _ (k base limit : ℕ) where
  abbrev w : Range
  w = window k base limit

  -- base and limit are in the order of the ends
  up : base ≤ limit → w.first ≤ w.last
  up h = omega (arith, mul-le-mul_right (2 ^ k) h)

  down : limit < base → w.last < w.first
  down h = omega (arith, pow_pos k, suc-mul limit (2 ^ k), mul-le-mul_right (2 ^ k) h)

  -- the first address of a window is in it
  pub window_first : base ≤ limit → within w w.first ≡ true
  window_first h = is_within w w.first (omega arith) (up h)

  -- the last is
  pub window_last : base ≤ limit → within w w.last ≡ true
  window_last h = is_within w w.last (up h) (omega arith)

  -- the one before the first is not
  pub window_before : 0 < w.first → within w (w.first - 1) ≡ false
  window_before h = below_first w (w.first - 1) (omega arith)

  -- nor is the one after the last
  pub window_after : within w (w.last + 1) ≡ false
  window_after = above_last w (w.last + 1) (omega arith)

  -- with base above limit nothing is
  pub window_empty : limit < base → (a : ℕ) → within w a ≡ false
  window_empty h a = none_within w a (down h)

not_cut : (isa low : Bool) → not (isa && (low && not true)) ≡ true
not_cut true true = refl
not_cut true false = refl
not_cut false low = refl

not_below : (a b : ℕ) → not (ltb a b && true) ≡ leb b a
not_below a b =
    tested (leb b a) (λ q. rw (q, le-ltb a b (leb-true b a q))) (λ q. rw (q, lt-ltb a b (leb-false b a q)))

module _ (o : Options) (part : List ℕ)
    (h : io_granule o.io32 part IO_BASE IO_BASE_UPPER16 ≤ io_granule o.io32 part IO_LIMIT IO_LIMIT_UPPER16) where
  base : ℕ
  base = io_granule o.io32 part IO_BASE IO_BASE_UPPER16

  limit : ℕ
  limit = io_granule o.io32 part IO_LIMIT IO_LIMIT_UPPER16

  first_bits : base * 2 ^ 12 / 256 % 4 ≡ 0
  first_bits = omega arith

  last_bits : (limit * 2 ^ 12 + (2 ^ 12 - 1)) / 256 % 4 ≡ 3
  last_bits = omega arith

  -- ISA never cuts out the first address of the I/O window
  pub io_first : in_io (windows_of o part) (windows_of o part).io.first ≡ true
  unfolding windows_of base
  io_first =
      rw (window_first 12 base (io_granule o.io32 part IO_LIMIT IO_LIMIT_UPPER16) h, first_bits)
      (not_cut (windows_of o part).isa (ltb (base * 2 ^ 12) 0x10000))

  -- with ISA on its last is in exactly where it is at or above 10000h
  pub io_last : (windows_of o part).isa ≡ true → in_io (windows_of o part) (windows_of o part).io.last ≡ leb 0x10000 (windows_of o part).io.last
  unfolding windows_of limit
  io_last on =
      rw (window_last 12 (io_granule o.io32 part IO_BASE IO_BASE_UPPER16) limit h, on, last_bits)
      (not_below (limit * 2 ^ 12 + (2 ^ 12 - 1)) 0x10000)

module _ (r : Range) where
  -- a range is empty where no address is within
  pub is_empty_lem : ((a : ℕ) → within r a ≡ false) → is_empty r ≡ true
  is_empty_lem n =
      tested (is_empty r) (λ q. q)
      (λ q.
      absurd (true≢false (sym (is_within r r.first (omega arith) (ltb-false r.last r.first q)) ∙ n r.first)))

  -- and only there
  pub empty_none : is_empty r ≡ true → (a : ℕ) → within r a ≡ false
  empty_none e a = none_within r a (ltb-true r.last r.first e)

  -- one with an address within is not empty
  pub not_empty : (a : ℕ) → within r a ≡ true → is_empty r ≡ false
  not_empty a e = le-ltb r.last r.first (omega (arith, within_ends r a e))

  -- one that is not empty has both its ends within, and every address within lies between them
  pub ends_both : is_empty r ≡ false
      → (within r r.first ≡ true) × (within r r.last ≡ true) × ((a : ℕ) → within r a ≡ true → (r.first ≤ a) × (a ≤ r.last))
  ends_both e =
      let h = ltb-false r.last r.first e in
      (is_within r r.first (omega arith) h, is_within r r.last h (omega arith), within_ends r)
