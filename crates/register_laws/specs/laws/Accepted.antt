-- Accepted images: what it means that two images are refused or not, and what keeps them accepted.
use Rattle.std.specs.Prelude.{◌≡◌, refl, Bool, true, false, not, cond, List, ℕ, ◌<◌, eqb, length, get_or}
use Rattle.std.proofs.Common.{ap, ◌∙◌, arith, eqb-true, eq-eqb}
use Rattle.std.specs.Int.Bits.{bit_and}
use Rattle.std.proofs.lemmas.Bool.{eqb-false, not-false}
use Rattle.rack.specs.declared.Node.{Node}
use Rattle.rack.specs.definitions.Tree.{Tree}
use Rattle.rack.specs.definitions.Stored.{Stored}
use Rattle.register_header.specs.declared.Side.{Side}
use Rattle.register_header.specs.declared.StatusBit.{StatusBit}
use Rattle.register_header.specs.definitions.Mask.{fixed_mask, reset_byte}
use Rattle.register_header.specs.definitions.Register.{write_register, set_status}
use Rattle.register_image.specs.definitions.Image.{Images, view, on_node, write_node, status_node}
use Rattle.register_image.specs.definitions.Fixed.{lengths_wrong, byte_wrong, node_wrong, fixed_wrong}
use Rattle.bus_reset.specs.definitions.Agreement.{disagrees, image_refusal}
use Rattle.rack.specs.laws.Bools.{tested}
use Rattle.rack.specs.laws.Search.{none, none_all, found, found_at}
use Rattle.register_laws.specs.laws.Images.{view_length, on_right, view_same, view_other}
use Rattle.register_laws.specs.laws.Registers.{write_length, write_fixed, status_length}
use Rattle.register_laws.specs.laws.Status.{status_fixed}

-- the number tells the three tests
number : Bool → Bool → Bool → ℕ
number a b c = cond a 11 (cond b 12 (cond c 18 0))

number_11 : (a b c : Bool) → number a b c ≡ 11 → a ≡ true
unfolding number
number_11 true b c e = refl
number_11 false true c e = absurd (omega arith)
number_11 false false true e = absurd (omega arith)
number_11 false false false e = absurd (omega arith)

number_12 : (a b c : Bool) → number a b c ≡ 12 → (a ≡ false) × (b ≡ true)
unfolding number
number_12 true b c e = absurd (omega arith)
number_12 false true c e = (refl, refl)
number_12 false false true e = absurd (omega arith)
number_12 false false false e = absurd (omega arith)

number_18 : (a b c : Bool) → number a b c ≡ 18 → (a ≡ false) × (b ≡ false) × (c ≡ true)
unfolding number
number_18 true b c e = absurd (omega arith)
number_18 false true c e = absurd (omega arith)
number_18 false false true e = (refl, refl, refl)
number_18 false false false e = absurd (omega arith)

number_0 : (a b c : Bool) → number a b c ≡ 0 → (a ≡ false) × (b ≡ false) × (c ≡ false)
unfolding number
number_0 true b c e = absurd (omega arith)
number_0 false true c e = absurd (omega arith)
number_0 false false true e = absurd (omega arith)
number_0 false false false e = (refl, refl, refl)

-- a byte is right where its fixed bits are the reset value's
pub byte_right : (n : Node) (part : List ℕ) (at : ℕ) → byte_wrong n part at ≡ false
    → bit_and (get_or part at 0) (fixed_mask n at) ≡ bit_and (reset_byte n at) (fixed_mask n at)
unfolding byte_wrong
byte_right n part at e = eqb-true _ _ (not-false _ e)

-- and the converse
pub right_byte : (n : Node) (part : List ℕ) (at : ℕ)
    → bit_and (get_or part at 0) (fixed_mask n at) ≡ bit_and (reset_byte n at) (fixed_mask n at) → byte_wrong n part at ≡ false
unfolding byte_wrong
right_byte n part at e = ap not (eq-eqb _ _ e)

module _ (t : Tree) (im : Images) where
  -- images have a wrong fixed bit: a node of the rack and a byte of its part have it
  pub fixed_wrong_lem : fixed_wrong t im ≡ true
      → (i : ℕ) × (i < t.count) × (at : ℕ) × (at < 64) × (byte_wrong (t.node i) (view t im i) at ≡ true)
  fixed_wrong_lem e =
      let s = found (node_wrong t im) t.count e in
      let b = found (byte_wrong (t.node s.0) (view t im s.0)) 64 s.2 in
      (s.0, s.1, b.0, b.1, b.2)

  -- and the converse
  pub wrong_fixed : (i at : ℕ) → i < t.count → at < 64 → byte_wrong (t.node i) (view t im i) at ≡ true → fixed_wrong t im ≡ true
  wrong_fixed i at hi ha e =
      found_at (node_wrong t im) t.count i hi (found_at (byte_wrong (t.node i) (view t im i)) 64 at ha e)

  -- images have none: no node has one, at no byte
  pub fixed_right : fixed_wrong t im ≡ false
      → (i : ℕ) → i < t.count → (at : ℕ) → at < 64 → byte_wrong (t.node i) (view t im i) at ≡ false
  fixed_right e i hi at ha =
      none (byte_wrong (t.node i) (view t im i)) 64 (none (node_wrong t im) t.count e i hi) at ha

  -- and the converse
  pub right_fixed : ((i : ℕ) → i < t.count → (at : ℕ) → at < 64 → byte_wrong (t.node i) (view t im i) at ≡ false)
      → fixed_wrong t im ≡ false
  right_fixed h =
      none_all (node_wrong t im) t.count (λ i hi. none_all (byte_wrong (t.node i) (view t im i)) 64 (λ at ha. h i hi at ha))

  -- refusal 11: a length is wrong
  pub refused_11 : image_refusal t im ≡ 11 → lengths_wrong t im ≡ true
  unfolding image_refusal number
  refused_11 e = number_11 (lengths_wrong t im) (fixed_wrong t im) (disagrees t im) e

  -- and the converse
  pub refuses_11 : lengths_wrong t im ≡ true → image_refusal t im ≡ 11
  unfolding image_refusal
  refuses_11 a = rw a

  -- refusal 12: the lengths are right and a fixed bit is wrong
  pub refused_12 : image_refusal t im ≡ 12 → (lengths_wrong t im ≡ false) × (fixed_wrong t im ≡ true)
  unfolding image_refusal number
  refused_12 e = number_12 (lengths_wrong t im) (fixed_wrong t im) (disagrees t im) e

  -- and the converse
  pub refuses_12 : lengths_wrong t im ≡ false → fixed_wrong t im ≡ true → image_refusal t im ≡ 12
  unfolding image_refusal
  refuses_12 a b = rw (a, b)

  -- refusal 18: both are right and a held node differs from reset
  pub refused_18 : image_refusal t im ≡ 18 → (lengths_wrong t im ≡ false) × (fixed_wrong t im ≡ false) × (disagrees t im ≡ true)
  unfolding image_refusal number
  refused_18 e = number_18 (lengths_wrong t im) (fixed_wrong t im) (disagrees t im) e

  -- and the converse
  pub refuses_18 : lengths_wrong t im ≡ false → fixed_wrong t im ≡ false → disagrees t im ≡ true → image_refusal t im ≡ 18
  unfolding image_refusal
  refuses_18 a b c = rw (a, b, c)

  -- accepted images: the lengths are right and every byte of every node is
  pub accepted : image_refusal t im ≡ 0
      → (lengths_wrong t im ≡ false)
      × ((i : ℕ) → i < t.count → (at : ℕ) → at < 64 → byte_wrong (t.node i) (view t im i) at ≡ false)
  unfolding image_refusal number
  accepted e = let s = number_0 (lengths_wrong t im) (fixed_wrong t im) (disagrees t im) e in (s.0, fixed_right s.1)

  -- and no held node differs from reset
  pub agreed : image_refusal t im ≡ 0 → disagrees t im ≡ false
  unfolding image_refusal number
  agreed e = (number_0 (lengths_wrong t im) (fixed_wrong t im) (disagrees t im) e).2

  -- and the converse
  pub accepts : lengths_wrong t im ≡ false
      → ((i : ℕ) → i < t.count → (at : ℕ) → at < 64 → byte_wrong (t.node i) (view t im i) at ≡ false)
      → disagrees t im ≡ false → image_refusal t im ≡ 0
  unfolding image_refusal
  accepts a h d = rw (a, right_fixed h, d)

-- images whose lengths and fixed bits are right
pub record Sound (t : Tree) (im : Images) : Type 0 where
  pub lengths : lengths_wrong t im ≡ false
  pub bytes : (i : ℕ) → i < t.count → (at : ℕ) → at < 64 → byte_wrong (t.node i) (view t im i) at ≡ false

pub accepted_sound : (t : Tree) (im : Images) → image_refusal t im ≡ 0 → Sound t im
accepted_sound t im e = record { lengths = (accepted t im e).0; bytes = (accepted t im e).1 }

-- a change of one node's part that keeps its length and its fixed bits keeps them so
pub on_sound : (t : Tree) (im : Images) (i : ℕ) (f : List ℕ → List ℕ) → Stored t → Sound t im
    → length (f (view t im i)) ≡ length (view t im i)
    → ((at : ℕ) → bit_and (get_or (f (view t im i)) at 0) (fixed_mask (t.node i) at)
    ≡ bit_and (get_or (view t im i) at 0) (fixed_mask (t.node i) at))
    → Sound t (on_node t im i f)
on_sound t im i f pl s long same =
    let hf : i < t.count → length (f (view t im i)) ≡ 64 = λ h. long ∙ view_length t im pl s.lengths i h in
    record {
      lengths = on_right t im i f hf s.lengths;
      bytes = λ j hj at ha.
          tested (eqb j i)
          (λ q.
          let ji : j ≡ i = eqb-true j i q in
          let hi : i < t.count = omega arith in
          rw (ji, view_same t im i f hf pl s.lengths hi)
          (right_byte (t.node i) (f (view t im i)) at (same at ∙ byte_right (t.node i) (view t im i) at (s.bytes i hi at ha))))
          (λ q. rw (view_other t im i f hf pl s.lengths j (eqb-false j i q)) (s.bytes j hj at ha));
    }

-- so does a register write, also one of a missing node
pub write_sound : (t : Tree) (im : Images) (i register enables put : ℕ) → Stored t → Sound t im
    → Sound t (write_node t im i register enables put)
write_sound t im i register enables put pl s =
    on_sound t im i (λ part. write_register (t.node i) part register enables put) pl s
    (write_length (t.node i) (view t im i) register enables put) (write_fixed (t.node i) (view t im i) register enables put)

-- and a status bit
pub status_sound : (t : Tree) (im : Images) (i : ℕ) (side : Side) (bit : StatusBit) → Stored t → Sound t im
    → Sound t (status_node t im i side bit)
status_sound t im i side bit pl s =
    on_sound t im i (λ part. set_status (t.node i) part side bit) pl s
    (status_length (t.node i) (view t im i) side bit) (status_fixed (t.node i) (view t im i) side bit)
