-- The sizes of regions, computed: what sizing finds over a region at reset, for every kind and exponent.
use Rattle.std.specs.Prelude.{◌≡◌, refl, Bool, true, false, not, ◌&&◌, cond, ℕ, ◌+◌, ◌*◌, ◌^◌, ◌≤◌, ◌<◌, leb, eqb}
use Rattle.std.proofs.Common.{arith, le-leb, eqb-true}
use Rattle.std.proofs.lemmas.Bool.{not-false}
use Rattle.rack.specs.declared.Region.{Region}
use Rattle.rack.specs.definitions.Count.{some, some_from}
use Rattle.register_header.specs.definitions.Byte.{written_byte}
use Rattle.register_header.specs.definitions.Mask.{region_write, region_reset}
use Rattle.register_header.specs.definitions.Register.{dword_of}
use Rattle.register_header.specs.definitions.Sizing.{cleared, negated}
use Rattle.rack.specs.laws.Search.{none}

-- byte b of a region's eight after all ones are written over its reset value
unfoldable pub ones_byte : ℕ → ℕ → ℕ → ℕ
ones_byte kind e b = written_byte (region_reset kind b) 255 (region_write kind e b) 0

-- the dword of bytes b to b + 3
unfoldable pub ones_dword : ℕ → ℕ → ℕ → ℕ
ones_dword kind e b = dword_of (ones_byte kind e b) (ones_byte kind e (b + 1)) (ones_byte kind e (b + 2)) (ones_byte kind e (b + 3))

-- the size that is found from them
unfoldable pub ones_size : ℕ → ℕ → ℕ
ones_size kind e =
    cond (eqb kind 1) (negated 32 (cleared 4 (ones_dword kind e 0)))
    (cond (eqb kind 2) (negated 32 (cleared 16 (ones_dword kind e 0)))
    (cond (eqb kind 3) (negated 64 (cleared 16 (ones_dword kind e 4 * 2 ^ 32 + ones_dword kind e 0))) 0))

-- the exponents of a kind: 2 to 8 for I/O (kind 1), 4 to 31 for memory (kinds 2 and 3)
abbrev pub least_exponent : ℕ → ℕ
least_exponent kind = cond (eqb kind 1) 2 4

abbrev pub most_exponent : ℕ → ℕ
most_exponent kind = cond (eqb kind 1) 8 31

-- a region of kind 1 to 3 whose exponent is in its kind's range
pub record InRange (g : Region) : Type 0 where
  pub given : 1 ≤ g.kind
  pub known : g.kind ≤ 3
  pub least : least_exponent g.kind ≤ g.exponent
  pub most : g.exponent ≤ most_exponent g.kind

wrong_size : ℕ → ℕ → Bool
wrong_size kind e =
    (leb 1 kind && (leb (least_exponent kind) e && leb e (most_exponent kind))) && not (eqb (ones_size kind e) (2 ^ e))

-- the one computed test, over all kinds and exponents
no_wrong : some (λ kind. some (wrong_size kind) 32) 4 ≡ false
unfolding some_from wrong_size ones_size ones_dword ones_byte region_reset region_write
no_wrong = refl

most_lt : (kind e : ℕ) → e ≤ most_exponent kind → e < 32
most_lt kind e h = under (eqb kind 1) h
  where
    under : (b : Bool) → e ≤ cond b 8 31 → e < 32
    under true h = omega arith
    under false h = omega arith

-- every region in its range has the size 2 to its exponent
pub ones_size_lem : (g : Region) → InRange g → ones_size g.kind g.exponent ≡ 2 ^ g.exponent
unfolding wrong_size
ones_size_lem g h =
    let kind = g.kind in
    let e = g.exponent in
    let w : wrong_size kind e ≡ false =
    none (wrong_size kind) 32 (none (λ k. some (wrong_size k) 32) 4 no_wrong kind (omega (arith, h.known))) e (most_lt kind e h.most) in
    let r =
    rw (le-leb 1 kind h.given, le-leb (least_exponent kind) e h.least, le-leb e (most_exponent kind) h.most) at w in
    eqb-true (ones_size kind e) (2 ^ e) (not-false _ r)
