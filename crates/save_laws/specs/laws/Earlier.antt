-- What stands before a register record: the records from the first of them on, each of 66 bytes, with one more at their end; and the
-- bridges above its node, which are earlier nodes.
use Rattle.std.specs.Prelude.{◌≡◌, Bool, true, false, ◌||◌, List}
use Rattle.std.proofs.Math.Path.{refl, sym}
use Rattle.std.proofs.Common.{ap, ◌∙◌}
use Rattle.std.proofs.Math.Bool.{or-false, or_assoc}
use Prim.Native.Nat.{ℕ, zero, suc, ◌+◌, ◌*◌, ◌<◌}
use native.Mathlib.Omega.{arith}
use borrow.Author.Tests.{lt-ltb, le-ltb}
use Rattle.rack.specs.definitions.Tree.{Tree, parent_of}
use Rattle.rack.specs.definitions.Refusal.{rack_refusal}
use Rattle.register_image.specs.definitions.Image.{Images, set_node}
use Rattle.bus_reset.specs.definitions.Held.{above}
use Rattle.register_laws.specs.laws.Above.{above_found, found_above, above_earlier}
use Rattle.file_record.specs.definitions.Number.{byte_in}
use Rattle.file_record.specs.definitions.Record.{registers_in}
use Rattle.file_record.specs.definitions.Load.{resets_at, record_resets}
use Rattle.file_record.specs.definitions.Start.{set_from}

module _ (b : List ℕ) where
  -- before the first there is none
  pub resets_none : (turns o g : ℕ) → record_resets turns b o o g ≡ false
  unfolding record_resets
  resets_none zero o g = refl
  resets_none (suc turns) o g = rw (lt-ltb o (o + 66) (omega arith))

  pub set_none : (turns o : ℕ) (t : Tree) (im : Images) → set_from turns b t o o im ≡ im
  unfolding set_from
  set_none zero o t im = refl
  set_none (suc turns) o t im = rw (lt-ltb o (o + 66) (omega arith))

  -- one more at the end of n of them
  pub resets_more : (turns n start o g : ℕ) → start + 66 * n ≡ o → n < turns
      → record_resets turns b (o + 66) start g ≡ (record_resets turns b o start g || resets_at b o g)
  unfolding record_resets
  resets_more zero n start o g e l = absurd (omega arith)
  resets_more (suc turns) zero start o g e l =
      let s : start ≡ o = omega arith in
      rw (s, le-ltb (o + 66) (o + 66) (omega arith), lt-ltb o (o + 66) (omega arith), resets_none turns (o + 66) g)
      (or-false (resets_at b o g))
  resets_more (suc turns) (suc n) start o g e l =
      rw (le-ltb (o + 66) (start + 66) (omega arith), le-ltb o (start + 66) (omega arith))
      (ap (λ (x : Bool). resets_at b start g || x) (resets_more turns n (start + 66) o g (omega arith) (omega arith))
      ∙ sym (or_assoc (resets_at b start g) (record_resets turns b o (start + 66) g) (resets_at b o g)))

  pub set_more : (turns n start o : ℕ) (t : Tree) (im : Images) → start + 66 * n ≡ o → n < turns
      → set_from turns b t (o + 66) start im ≡ set_node t (set_from turns b t o start im) (byte_in b (o + 1)) (registers_in b o)
  unfolding set_from
  set_more zero n start o t im e l = absurd (omega arith)
  set_more (suc turns) zero start o t im e l =
      let s : start ≡ o = omega arith in
      rw (s, le-ltb (o + 66) (o + 66) (omega arith), lt-ltb o (o + 66) (omega arith))
      (set_none turns (o + 66) t (set_node t im (byte_in b (o + 1)) (registers_in b o)))
  set_more (suc turns) (suc n) start o t im e l =
      rw (le-ltb (o + 66) (start + 66) (omega arith), le-ltb o (start + 66) (omega arith))
      (set_more turns n (start + 66) o t (set_node t im (byte_in b (start + 1)) (registers_in b start)) (omega arith) (omega arith))

module _ (t : Tree) (ok : rack_refusal t ≡ 0) where
  -- two tests that agree on earlier nodes find the same above node i
  pub found_earlier : (f h : ℕ → Bool) (i : ℕ) → i < t.count → ((g : ℕ) → g < i → f g ≡ true → h g ≡ true)
      → above t f (parent_of t i) ≡ true → above t h (parent_of t i) ≡ true
  found_earlier f h i l s q =
      let r = above_found t f (parent_of t i) q in
      found_above t h r.0 (parent_of t i) (s r.0 (above_earlier t ok r.0 i l r.2) r.1) r.2
