-- What setting a status bit changes: bits that writing 1 clears, and nothing else.
use Rattle.std.specs.Prelude.{◌≡◌, refl, List, ℕ, ◌-◌, ltb, eqb, length}
use Rattle.std.proofs.Common.{arith, get_or-set_other, ltb-true, ltb-false, eqb-true}
use Rattle.std.specs.Int.Bits.{bit_and, bit_or}
use Rattle.std.proofs.Math.ListN.{get_or}
use Rattle.std.proofs.Math.Seq.{get_or-set_same, set_out}
use Rattle.std.proofs.lemmas.Bool.{eqb-false}
use Rattle.rack.specs.declared.Kind.{Kind}
use Rattle.rack.specs.declared.Kind.TheVariants.{Bridge, OlderBridge, Device}
use Rattle.rack.specs.declared.Node.{Node}
use Rattle.register_header.specs.declared.Side.{Side}
use Rattle.register_header.specs.declared.Side.TheVariants.{Primary, Secondary}
use Rattle.register_header.specs.declared.StatusBit.{StatusBit}
use Rattle.register_header.specs.declared.StatusBit.TheVariants.{SignaledTargetAbort, ReceivedTargetAbort, ReceivedMasterAbort}
use Rattle.register_header.specs.definitions.Tables.{clear_table}
use Rattle.register_header.specs.definitions.Mask.{write_mask, clear_mask, fixed_mask}
use Rattle.register_header.specs.definitions.Register.{set_status, status_at, status_mask}
use Rattle.rack.specs.laws.Bools.{tested}
use Rattle.register_header.proofs.Disjoint.{write_lt, clear_lt}
use Rattle.register_laws.specs.laws.Kept.{narrow, or_outside}

-- the upper byte of a status register clears F9h
status_clear : (k : Kind) (side : Side) → get_or (clear_table k) (status_at k side) 0 ≡ 0xf9
status_clear Bridge Primary = refl
status_clear Bridge Secondary = refl
status_clear OlderBridge Primary = refl
status_clear OlderBridge Secondary = refl
status_clear Device Primary = refl
status_clear Device Secondary = refl

-- and the three status bits are among them
status_bits : (b : StatusBit) → bit_and (status_mask b) (255 - 0xf9) ≡ 0
status_bits SignaledTargetAbort = refl
status_bits ReceivedTargetAbort = refl
status_bits ReceivedMasterAbort = refl

-- a status bit is one that writing 1 clears
pub status_under : (n : Node) (side : Side) (b : StatusBit)
    → bit_and (status_mask b) (255 - clear_mask n (status_at n.kind side)) ≡ 0
unfolding clear_mask
status_under n side b = rw (status_clear n.kind side) (status_bits b)

module _ (n : Node) (part : List ℕ) (side : Side) (b : StatusBit) where
  -- setting it changes no bit but those that writing 1 clears
  pub status_only : (at : ℕ)
      → bit_and (get_or (set_status n part side b) at 0) (255 - clear_mask n at) ≡ bit_and (get_or part at 0) (255 - clear_mask n at)
  unfolding set_status
  status_only at =
      let s = status_at n.kind side in
      let old = get_or part s 0 in
      tested (ltb s (length part))
      (λ q.
      tested (eqb at s)
      (λ r.
      rw (eqb-true at s r, get_or-set_same part s (bit_or old (status_mask b)) 0 (ltb-true s _ q))
      (or_outside old (status_mask b) (255 - clear_mask n s) (omega arith) (status_under n side b)))
      (λ r. rw (get_or-set_other part s at (bit_or old (status_mask b)) 0 (eqb-false at s r))))
      (λ q. rw (set_out part s (bit_or old (status_mask b)) (ltb-false s _ q)))

  -- so it changes no fixed bit
  pub status_fixed : (at : ℕ)
      → bit_and (get_or (set_status n part side b) at 0) (fixed_mask n at) ≡ bit_and (get_or part at 0) (fixed_mask n at)
  status_fixed at =
      narrow (write_mask n at) (clear_mask n at) (write_lt n at) (clear_lt n at) (get_or (set_status n part side b) at 0)
      (get_or part at 0) (status_only at)
