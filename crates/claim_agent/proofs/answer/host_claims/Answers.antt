use mathlib.Core.Path.{◌≡◌}
use mathlib.Core.Bool.{Bool, ◌&&◌}
use Prim.Native.Nat.{ℕ}
use denote.Enum.Bare.{sameb}
use Rattle.rack.specs.declared.Range.{Range}
use Rattle.claim_window.specs.definitions.Range.{within}
use Rattle.claim_agent.specs.contracts.Space.{the_type}
use Rattle.claim_agent.specs.declared.Space.{Space}
use Rattle.claim_agent.specs.declared.Space.TheVariants.{Memory, Io, Configuration}
use Rattle.claim_agent.specs.definitions.Claim.{host_claims}
use Rattle.claim_agent.proofs.answer.host_claims.Goals as goal

in_memory : (h : Range) (space : Space) (a : ℕ) {e w : Bool} → e ≡ sameb the_type space Memory → w ≡ within h a → (e && w) ≡ host_claims h space a
unfolding host_claims
in_memory h Memory a ee ew = rw (ee, ew)
in_memory h Io a ee ew = rw ee
in_memory h Configuration a ee ew = rw ee

pub returns : goal.returns
returns c = in_memory _ _ _ c.eq.ensures c.within_range.ensures
