-- Parts of a node that differ in status bits alone: what its claims are decoded from is the same.
use Rattle.std.specs.Prelude.{◌≡◌, refl, Bool, true, false, ◌||◌, ◌&&◌, List, ℕ, ◌+◌, ◌/◌, ◌%◌, ◌^◌, ◌<◌, ltb, eqb, length, get_or}
use Rattle.std.proofs.Common.{sym, ◌∙◌, arith, get_or-set_same, get_or-set_other, ltb-true, ltb-false, eqb-true, ne_eqb}
use Rattle.std.proofs.lemmas.Bool.{false≢true, eqb-false}
use Rattle.std.specs.Int.Bits.{bit_and, bit_or, or_zero_r}
use Rattle.std.proofs.lemmas.Nat.{and_mask, or_shr}
use Rattle.std.proofs.Math.Seq.{set_out}
use Rattle.rack.specs.declared.Kind.{Kind}
use Rattle.rack.specs.declared.Kind.TheVariants.{Bridge, OlderBridge, Device}
use Rattle.rack.specs.declared.Node.{Node}
use Rattle.rack.specs.definitions.Node.{region_in, is_bridge}
use Rattle.rack.specs.laws.Bools.{tested}
use Rattle.register_header.specs.declared.Options.{Options}
use Rattle.register_header.specs.declared.Side.{Side}
use Rattle.register_header.specs.declared.StatusBit.{StatusBit}
use Rattle.register_header.specs.declared.StatusBit.TheVariants.{SignaledTargetAbort, ReceivedTargetAbort, ReceivedMasterAbort}
use Rattle.register_header.specs.definitions.PciRegs.{COMMAND, SECONDARY_BUS, SUBORDINATE_BUS, IO_BASE, IO_LIMIT, MEMORY_BASE, MEMORY_LIMIT, PREF_MEMORY_BASE, PREF_MEMORY_LIMIT, PREF_BASE_UPPER32, PREF_LIMIT_UPPER32, IO_BASE_UPPER16, IO_LIMIT_UPPER16, BRIDGE_CONTROL}
use Rattle.register_header.specs.laws.Every.{every, clear_long, everywhere}
use Rattle.register_header.specs.definitions.Tables.{clear_table}
use Rattle.register_header.specs.definitions.Mask.{clear_mask}
use Rattle.register_header.specs.definitions.Sizing.{region_register}
use Rattle.register_header.specs.definitions.Register.{dword_at, set_status, status_at, status_mask}
use Rattle.register_laws.specs.laws.Status.{status_only}
use Rattle.claim_window.specs.definitions.Window.{word_at, windows_of}
use Rattle.claim_window.specs.definitions.Area.{area_of}
use Rattle.claim_agent.specs.definitions.Agent.{area_in, bridge_of, device_of}
use Rattle.claim_laws.specs.definitions.Same.{SameOutside, SameBytes}

-- the bytes of a bridge, or of a device, that hold status bits
abbrev pub status_byte : Bool → ℕ → Bool
status_byte bridge at = eqb at 7 || (bridge && eqb at 0x1f)

-- one test, computed over every clear table: no other byte's clear mask has a bit
cleared : (kind : Kind) → every (λ k c. eqb c 0 || status_byte (is_bridge kind) k) 0 (clear_table kind) ≡ true
cleared Bridge = refl
cleared OlderBridge = refl
cleared Device = refl

-- so where a byte holds no status bits, its clear mask is 0
pub clear_none : (n : Node) (k : ℕ) → status_byte (is_bridge n.kind) k ≡ false → clear_mask n k ≡ 0
unfolding clear_mask
clear_none n k e =
    eqb-true _ 0
    (or_first _ _ e (everywhere clear_table clear_long n.kind _ (cleared n.kind) (λ m h. refl) k))
  where
    or_first : (a b : Bool) → b ≡ false → (a || b) ≡ true → a ≡ true
    or_first true b f e = refl
    or_first false b f e = absurd (false≢true (sym f ∙ e))

-- where a mask has no bit, parts that differ under it alone have the same byte
pub outside_same : {mask : ℕ → ℕ} (p q : List ℕ) → SameOutside mask p q → (k : ℕ) → mask k ≡ 0 → get_or p k 0 ≡ get_or q k 0
outside_same p q s k z =
    let b : bit_and (get_or p k 0) 255 ≡ bit_and (get_or q k 0) 255 = rw z at (s.bits k) in
    let m : get_or p k 0 % 256 ≡ get_or q k 0 % 256 = sym (and_mask (get_or p k 0) 8) ∙ b ∙ and_mask (get_or q k 0) 8 in
    omega (arith, s.above k)

module _ (n : Node) (p q : List ℕ) (s : SameBytes n p q) (bridge : Bool) (is : is_bridge n.kind ≡ bridge) where
  -- every byte without status bits is the same
  pub byte_same : (k : ℕ) → status_byte bridge k ≡ false → get_or p k 0 ≡ get_or q k 0
  byte_same k c = outside_same p q s k (clear_none n k (rw is c))

  -- so is every word of them, and every dword
  word_same : (k : ℕ) → status_byte bridge k ≡ false → status_byte bridge (k + 1) ≡ false → word_at p k ≡ word_at q k
  word_same k c0 c1 = rw (byte_same k c0, byte_same (k + 1) c1)

  dword_same : (k : ℕ) → status_byte bridge k ≡ false → status_byte bridge (k + 1) ≡ false → status_byte bridge (k + 2) ≡ false
      → status_byte bridge (k + 3) ≡ false → dword_at p k ≡ dword_at q k
  dword_same k c0 c1 c2 c3 = rw (byte_same k c0, byte_same (k + 1) c1, byte_same (k + 2) c2, byte_same (k + 3) c3)

-- a bridge's claims read no status bits, whatever its options
pub bridge_same : (o : Options) (n : Node) (p q : List ℕ) → SameBytes n p q → is_bridge n.kind ≡ true → bridge_of o p ≡ bridge_of o q
unfolding bridge_of windows_of
bridge_same o n p q s is =
    let byte : (k : ℕ) → status_byte true k ≡ false → get_or p k 0 ≡ get_or q k 0 = byte_same n p q s true is in
    let word = word_same n p q s true is in
    let dword = dword_same n p q s true is in
    simp (
      byte COMMAND refl,
      byte SECONDARY_BUS refl,
      byte SUBORDINATE_BUS refl,
      byte IO_BASE refl,
      byte IO_LIMIT refl,
      byte BRIDGE_CONTROL refl,
      word IO_BASE_UPPER16 refl refl,
      word IO_LIMIT_UPPER16 refl refl,
      word MEMORY_BASE refl refl,
      word MEMORY_LIMIT refl refl,
      word PREF_MEMORY_BASE refl refl,
      word PREF_MEMORY_LIMIT refl refl,
      dword PREF_BASE_UPPER32 refl refl refl refl,
      dword PREF_LIMIT_UPPER32 refl refl refl refl,
    )

-- nor do a device's areas
area_same : (n : Node) (p q : List ℕ) → SameBytes n p q → is_bridge n.kind ≡ false → (kind e r : ℕ)
    → area_of p kind e r ≡ area_of q kind e r
unfolding area_of
area_same n p q s is kind e r =
    rw (dword (region_register r) (omega arith), dword (region_register r + 4) (omega arith))
  where
    far : (k : ℕ) → 7 < k → status_byte false k ≡ false
    far k h = rw (ne_eqb k 7 (omega arith))

    dword : (k : ℕ) → 7 < k → dword_at p k ≡ dword_at q k
    dword k h =
        dword_same n p q s false is k (far k h) (far (k + 1) (omega arith)) (far (k + 2) (omega arith)) (far (k + 3) (omega arith))

-- nor all of its claims
pub device_same : (n : Node) (p q : List ℕ) → SameBytes n p q → is_bridge n.kind ≡ false → device_of n p ≡ device_of n q
unfolding device_of
device_same n p q s is =
    let c : get_or p COMMAND 0 ≡ get_or q COMMAND 0 = byte_same n p q s false is COMMAND refl in
    let area : (r : ℕ) → area_in n p r ≡ area_in n q r = λ r. area_same n p q s is (region_in n r).kind (region_in n r).exponent r in
    rw (c, area 0, area 1, area 2)

-- a status bit set in a part makes no other difference
pub set_same : (n : Node) (part : List ℕ) (side : Side) (bit : StatusBit) → SameBytes n part (set_status n part side bit)
unfolding set_status
set_same n part side bit = record { bits = λ k. sym (status_only n part side bit k); above = λ k. same k }
  where
    small : (b : StatusBit) → status_mask b / 2 ^ 8 ≡ 0
    small SignaledTargetAbort = refl
    small ReceivedTargetAbort = refl
    small ReceivedMasterAbort = refl

    high : (old : ℕ) → old / 256 ≡ bit_or old (status_mask bit) / 256
    high old = sym (or_shr old (status_mask bit) 8 ∙ rw (small bit) (or_zero_r (old / 2 ^ 8)))

    same : (k : ℕ) → get_or part k 0 / 256 ≡ get_or (set_status n part side bit) k 0 / 256
    same k =
        let place = status_at n.kind side in
        let new = bit_or (get_or part place 0) (status_mask bit) in
        tested (ltb place (length part))
        (λ q.
        tested (eqb k place)
        (λ r. rw (eqb-true k place r, get_or-set_same part place new 0 (ltb-true place _ q)) (high (get_or part place 0)))
        (λ r. rw (get_or-set_other part place k new 0 (eqb-false k place r))))
        (λ q. rw (set_out part place new (ltb-false place _ q)))
