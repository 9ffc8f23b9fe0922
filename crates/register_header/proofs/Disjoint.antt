-- The write and clear masks never meet: one computed test over the tables, and with it the masks of every node.
use Rattle.std.specs.Prelude.{◌≡◌, refl, Bool, true, false, ◌&&◌, cond, ℕ, ◌<◌, min, ltb, eqb, get_or}
use Rattle.std.proofs.Common.{sym, ap, ◌∙◌, mod-lt, ltb-true, eqb-true, lit<}
use Rattle.std.proofs.Math.Bool.{and-eq-true_iff}
use Rattle.std.specs.Int.Bits.{bit_and, bit_or, and_zero_r}
use Rattle.rack.specs.declared.Kind.{Kind}
use Rattle.rack.specs.declared.Kind.TheVariants.{Bridge, OlderBridge, Device}
use Rattle.rack.specs.declared.Node.{Node}
use Rattle.register_header.specs.laws.Bits.{bit, bit_and_lem, bit_of_zero}
use Rattle.register_header.specs.definitions.Tables.{write_table, clear_table, reset_table}
use Rattle.register_header.specs.definitions.Mask.{region_byte, in_region, region_write, write_mask, clear_mask}
use Rattle.register_header.specs.laws.Every.{every, write_long, clear_long, reset_long, past, everywhere}

-- an entry's two masks and its reset value are bytes of which no two have a common bit; in a device's regions no bit is cleared
abbrev sound_entry : Bool → ℕ → ℕ → ℕ → Bool
sound_entry region write clear reset =
    ltb write 256 && (ltb clear 256 && (ltb reset 256
    && (eqb (bit_and write clear) 0 && (eqb (bit_and reset (bit_or write clear)) 0 && cond region (eqb clear 0) true))))

-- what a passed test says of an entry
pub record Sound (region : Bool) (write clear reset : ℕ) : Type 0 where
  pub write_byte_lem : write < 256
  pub clear_byte : clear < 256
  pub reset_byte_lem : reset < 256
  pub apart : bit_and write clear ≡ 0
  pub fixed : bit_and reset (bit_or write clear) ≡ 0
  pub plain : region ≡ true → clear ≡ 0

sound : (region : Bool) (write clear reset : ℕ) → sound_entry region write clear reset ≡ true → Sound region write clear reset
sound region write clear reset e =
    let e1 = (and-eq-true_iff _ _).0 e in
    let e2 = (and-eq-true_iff _ _).0 e1.1 in
    let e3 = (and-eq-true_iff _ _).0 e2.1 in
    let e4 = (and-eq-true_iff _ _).0 e3.1 in
    let e5 = (and-eq-true_iff _ _).0 e4.1 in
    record {
      write_byte_lem = ltb-true _ _ e1.0;
      clear_byte = ltb-true _ _ e2.0;
      reset_byte_lem = ltb-true _ _ e3.0;
      apart = eqb-true _ _ e4.0;
      fixed = eqb-true _ _ e5.0;
      plain = λ r. eqb-true clear 0 (sym (ap (λ (b : Bool). cond b (eqb clear 0) true) r) ∙ e5.1);
    }

abbrev test : Kind → ℕ → ℕ → Bool
test kind at write = sound_entry (region_byte kind at) write (get_or (clear_table kind) at 0) (get_or (reset_table kind) at 0)

-- the test, computed over the tables of every header kind
passed : (kind : Kind) → every (test kind) 0 (write_table kind) ≡ true
passed Bridge = refl
passed OlderBridge = refl
passed Device = refl

no_entry : (region : Bool) → sound_entry region 0 0 0 ≡ true
no_entry true = refl
no_entry false = refl

-- so every entry is sound; past the tables each reads 0
pub entry : (kind : Kind) (at : ℕ)
    → Sound (region_byte kind at) (get_or (write_table kind) at 0) (get_or (clear_table kind) at 0) (get_or (reset_table kind) at 0)
entry kind k =
    sound _ _ _ _
    (everywhere write_table write_long kind (test kind) (passed kind)
    (λ m h. rw (past clear_table clear_long kind m h, past reset_table reset_long kind m h) (no_entry (region_byte kind m))) k)

pub cond_lt : (b : Bool) {x y m : ℕ} → x < m → y < m → cond b x y < m
cond_lt true hx hy = hx
cond_lt false hx hy = hy

cond_apart : (b : Bool) (x y m : ℕ) → (b ≡ true → m ≡ 0) → bit_and y m ≡ 0 → bit_and (cond b x y) m ≡ 0
cond_apart true x y m z e = rw (z refl) (and_zero_r x)
cond_apart false x y m z e = e

region_write_lt : (kind e k : ℕ) → region_write kind e k < 256
unfolding region_write
region_write_lt kind e k =
    cond_lt (eqb kind 0) (lit< tt) (cond_lt (ltb k 4) (mod-lt _ (lit< tt)) (cond_lt (eqb kind 3) (lit< tt) (lit< tt)))

module _ (n : Node) (at : ℕ) where
  -- the masks and the reset value of every byte of a node are bytes
  pub write_lt : write_mask n at < 256
  unfolding write_mask
  write_lt = cond_lt (in_region n at) (region_write_lt _ _ _) (entry n.kind at).write_byte_lem

  pub clear_lt : clear_mask n at < 256
  unfolding clear_mask
  clear_lt = (entry n.kind at).clear_byte

  -- writing 1 clears no bit of a region
  pub region_clear : in_region n at ≡ true → clear_mask n at ≡ 0
  unfolding clear_mask
  region_clear = (entry n.kind at).plain

  -- no bit is both written and cleared
  pub disjoint : bit_and (write_mask n at) (clear_mask n at) ≡ 0
  unfolding write_mask clear_mask
  disjoint = cond_apart (in_region n at) _ _ _ region_clear (entry n.kind at).apart

  -- so at each bit at most one of the two masks is set
  pub one_mask : (k : ℕ) → min (bit (write_mask n at) k) (bit (clear_mask n at) k) ≡ 0
  one_mask k = sym (bit_and_lem (write_mask n at) (clear_mask n at) k) ∙ ap (λ (x : ℕ). bit x k) disjoint ∙ bit_of_zero k
