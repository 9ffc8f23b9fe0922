-- At most one claimant, whatever is driven.
use Rattle.std.specs.Prelude.{◌≡◌, false, ℕ, ◌^◌, ◌≤◌, ◌<◌, length}
use Rattle.rack.specs.definitions.Tree.{Tree, IsBus, OnBus}
use Rattle.register_image.specs.definitions.Image.{Images}
use Rattle.claim_agent.specs.declared.Space.TheVariants.{Memory, Io, Configuration}
use Rattle.claim_agent.specs.definitions.Claimants.{claimants}
use Rattle.held_laws.specs.definitions.Others.{held_agent, other_claimants}

-- Demand 3: 'the count of claimants is at most one on every bus, for each agent of that bus as driver and every memory and I/O address,
-- and for the agent above it and each bus number 1 to 255'
pub record OneClaimant (t : Tree) (im : Images) : Type 0 where
  pub memory : (bus : ℕ) → IsBus t bus → (driver : ℕ) → OnBus t bus driver → (a : ℕ) → a < 2 ^ 64
      → length (claimants t im Memory bus driver a) ≤ 1
  pub io : (bus : ℕ) → IsBus t bus → (driver : ℕ) → OnBus t bus driver → (a : ℕ) → a < 2 ^ 32
      → length (claimants t im Io bus driver a) ≤ 1
  pub configuration : (bus : ℕ) → IsBus t bus → (n : ℕ) → 1 ≤ n → n ≤ 255
      → length (claimants t im Configuration bus bus n) ≤ 1

-- the same with held nodes left out. 02, E5: 'The check counts no held node as claimant or driver; for the other agents its pass still
-- says at most one'
pub record OneOther (t : Tree) (im : Images) : Type 0 where
  pub memory : (bus : ℕ) → IsBus t bus → (driver : ℕ) → OnBus t bus driver → held_agent t im driver ≡ false → (a : ℕ) → a < 2 ^ 64
      → length (other_claimants t im Memory bus driver a) ≤ 1
  pub io : (bus : ℕ) → IsBus t bus → (driver : ℕ) → OnBus t bus driver → held_agent t im driver ≡ false → (a : ℕ) → a < 2 ^ 32
      → length (other_claimants t im Io bus driver a) ≤ 1
  pub configuration : (bus : ℕ) → IsBus t bus → held_agent t im bus ≡ false → (n : ℕ) → 1 ≤ n → n ≤ 255
      → length (other_claimants t im Configuration bus bus n) ≤ 1
