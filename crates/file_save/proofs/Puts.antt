-- Bytes put after others, part by part of a record, and number by number of a file.
use mathlib.Core.Path.{◌≡◌, refl, sym, ap, ◌∙◌}
use mathlib.Core.List.{List, [], ◌++◌}
use Prim.Native.Nat.{ℕ, ◌+◌, ◌-◌, ◌≤◌, ◌<◌}
use native.Mathlib.Omega.{arith}
use borrow.Rule.Slice.PartMut.{put_mid}
use lib.ListN.{length, length-append}
use lib.Seq.{drop-drop}
use Rattle.rack.specs.definitions.Buffer.{placed}
use Rattle.rack.specs.laws.CountLaws.{left_suc, left_none}
use Rattle.file_save.specs.definitions.Saved.{Put, each}
use Rattle.file_save.specs.laws.Placed.{placed_none, placed_length, placed_both, placed_opened}

-- bytes that are known by an equation; no bytes
pub put_same : {at r : ℕ} {a s old new : List ℕ} → Put at a old r new → s ≡ a → Put at s old r new
put_same p e = rw e p

pub put_none : (at : ℕ) {s old : List ℕ} → s ≡ [] → Put at s old at old
put_none at {s} {old} e = put_same (record { end = omega arith; out = sym (placed_none at old) }) e

-- a buffer keeps its length
pub put_kept : {at r : ℕ} {s old new : List ℕ} → Put at s old r new → at + length s ≤ length old → length new ≡ length old
put_kept {at} {s = s} {old} p h = ap length p.out ∙ placed_length at s old h

-- two parts, and three
pub put_two : {at r r₁ : ℕ} {a b s old mid new : List ℕ} → Put at a old r₁ mid → Put r₁ b mid r new → s ≡ a ++ b
    → at + length s ≤ length old → Put at s old r new
put_two {at} {a = a} {b = b} {s} {old} p q e h =
    let both = length-append a b in
    let fits : at + length a ≤ length old = omega (arith, ap length e, both) in
    record {
      end = omega (arith, p.end, q.end, ap length e, both);
      out = rw (q.out, p.out, p.end, e) (placed_both at a old fits b);
    }

pub put_three : {at r r₁ r₂ : ℕ} {a b c s old m₁ m₂ new : List ℕ} → Put at a old r₁ m₁ → Put r₁ b m₁ r₂ m₂ → Put r₂ c m₂ r new
    → s ≡ a ++ b ++ c → at + length s ≤ length old → Put at s old r new
put_three {a = a} {b = b} {c = c} p q o e h =
    put_two (put_two p q refl (omega (arith, ap length e, length-append (a ++ b) c))) o e h

-- a part that was copied in
pub put_copied : (at : ℕ) (part old : List ℕ) {q : List ℕ} → at + length part ≤ length old
    → q ≡ part
    → Put at part old (at + length part) (put_mid at (at + length part - at) old q)
put_copied at part old {q} h e =
    let n = length part in
    let width : at + n - at ≡ n = omega arith in
    record { end = refl; out = rw (e, width, drop-drop n at old) (sym (placed_opened at part old)) }

-- of the numbers below `end`, those from i on are left: what is written with them is the whole
module _ (f : ℕ → List ℕ) (end : ℕ) (s : List ℕ) (at : ℕ) (old : List ℕ) where
  pub record Putting (i next : ℕ) (out : List ℕ) : Type 0 where
    pub rest : Put next (each f i (end - i)) out (at + length s) (placed at s old)
    pub kept : length out ≡ length old

  module _ {i next : ℕ} {out : List ℕ} (p : Putting i next out) where
    here : i < end → each f i (end - i) ≡ f i ++ each f (i + 1) (end - (i + 1))
    unfolding each
    here h = rw (left_suc i end h)

    none : end ≤ i → each f i (end - i) ≡ []
    unfolding each
    none h = rw (left_none i end h)

    module _ (h : i < end) (fits : at + length s ≤ length old) where
      long : length (each f i (end - i)) ≡ length (f i) + length (each f (i + 1) (end - (i + 1)))
      long = ap length (here h) ∙ length-append (f i) (each f (i + 1) (end - (i + 1)))

      room : next + length (f i) ≤ length out
      room = omega (arith, p.rest.end, p.kept, long)

      -- there is room for what stands of i, and once it is put the others are left
      pub puts_room : {b : List ℕ} → b ≡ f i → next + length b ≤ length out
      puts_room e = rw e room

      pub puts_next : {b : List ℕ} {r : ℕ} {new : List ℕ} → Put next b out r new → b ≡ f i → Putting (i + 1) r new
      puts_next q e =
          let both = placed_both next (f i) out room (each f (i + 1) (end - (i + 1))) in
          record {
            rest =
                record {
                  end = omega (arith, p.rest.end, long, q.end, ap length e);
                  out = rw (q.out, q.end, e, both, ← here h) p.rest.out;
                };
            kept = rw (q.out, e) (placed_length next (f i) out room) ∙ p.kept;
          }

    pub puts_end : end ≤ i → Put at s old next out
    puts_end h =
        record {
          end = omega (arith, p.rest.end, ap length (none h));
          out = sym (p.rest.out ∙ rw (none h) (placed_none next out));
        }
