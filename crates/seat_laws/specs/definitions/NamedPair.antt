-- The pairs of a seat and a node that a decoded rack names, and the seats without one. Sentences are those of document 02, E1.
use Rattle.std.specs.Prelude.{◌≡◌, true, ℕ, ◌≤◌, ◌<◌, get_or}
use Rattle.rack.specs.declared.Rack.{Rack}
use Rattle.seat.specs.definitions.Grants.{no_grant, slot}

-- the rack names a seat of 1 to 15 and one of 96 nodes together, with a mask
pub record NamedPair (rack : Rack) (seat node mask : ℕ) : Type 0 where
  pub first : 1 ≤ seat
  pub last : seat ≤ 15
  pub below : node < 96
  pub says : get_or rack.grants (slot seat node) no_grant ≡ record { named = true; mask = mask }

-- 15: 'a seat other than 0 without a record'
pub record WithoutPair (rack : Rack) (seat : ℕ) : Type 0 where
  pub other : seat ≡ 0 → ⊥
  pub none : (node mask : ℕ) → NamedPair rack seat node mask → ⊥
