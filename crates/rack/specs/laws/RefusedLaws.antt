-- What a refusal's number is not, and what a `?` hands on.
use Rattle.std.specs.Prelude.{◌≡◌, ℕ, Result, Ok, Err, IsErrAnd}
use Rattle.std.proofs.Common.{sym, ap, ◌∙◌, arith}
use Rattle.rack.specs.declared.refusal.Refusal.{Refusal}
use Rattle.rack.specs.declared.refusal.Refusal.TheVariants.{TooLong, UnknownKind, CutShort, HostMisplaced, Misordered, TooManyNodes, BadParent, HighDevice, TakenDevice, BadRegion, WrongLength, FixedBit, BadField, BadSeatRecord, UnknownSeat, MisplacedRegisters, BadRegisters, HeldRegisters, BadArbitration}
use Rattle.rack.specs.definitions.Refused.{refusal_number, number_of}
use Rattle.rack.specs.definitions.First.{◌or◌}
use Rattle.rack.specs.laws.FirstLaws.{or_this, or_next}

-- 0 is no refusal's number
pub refusal_not_0 : (r : Refusal) → refusal_number r ≡ 0 → ⊥
refusal_not_0 TooLong e = omega (arith, e)
refusal_not_0 UnknownKind e = omega (arith, e)
refusal_not_0 CutShort e = omega (arith, e)
refusal_not_0 HostMisplaced e = omega (arith, e)
refusal_not_0 Misordered e = omega (arith, e)
refusal_not_0 TooManyNodes e = omega (arith, e)
refusal_not_0 BadParent e = omega (arith, e)
refusal_not_0 HighDevice e = omega (arith, e)
refusal_not_0 TakenDevice e = omega (arith, e)
refusal_not_0 BadRegion e = omega (arith, e)
refusal_not_0 WrongLength e = omega (arith, e)
refusal_not_0 FixedBit e = omega (arith, e)
refusal_not_0 BadField e = omega (arith, e)
refusal_not_0 BadSeatRecord e = omega (arith, e)
refusal_not_0 UnknownSeat e = omega (arith, e)
refusal_not_0 MisplacedRegisters e = omega (arith, e)
refusal_not_0 BadRegisters e = omega (arith, e)
refusal_not_0 HeldRegisters e = omega (arith, e)
refusal_not_0 BadArbitration e = omega (arith, e)

-- what a `?` returns where it leaves
pub handed_on : {A : Type 0} (x : Result A Refusal) {r : Refusal} → IsErrAnd x (λ y. y ≡ r) → x ≡ Err r
handed_on (Ok v) h = absurd h
handed_on (Err s) h = ap Err h

-- a chain of refusals: a `?` that leaves with the first number, and what comes after one that stays
module _ {n : ℕ} (m : ℕ) where
  pub handed_first : {A : Type 0} (x : Result A Refusal) (r : Refusal) → IsErrAnd x (λ y. y ≡ r) → refusal_number r ≡ n → number_of x ≡ n or m
  handed_first x r h e =
      ap number_of (handed_on x h) ∙ e ∙ sym (or_this n m (λ z. refusal_not_0 r (e ∙ z)))

  pub after_none : {k : ℕ} → 0 ≡ n → k ≡ m → k ≡ n or m
  after_none e q = q ∙ sym (or_next n m (sym e))
