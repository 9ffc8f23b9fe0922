-- What a check shows: the first clash in document 01's order, and that all before it is clear.
use Rattle.std.specs.Prelude.{◌≡◌, List, [], ◌∷◌, ◌++◌, ℕ, ◌≤◌, ◌<◌, length}
use Rattle.rack.specs.definitions.Tree.{Tree, buses}
use Rattle.register_image.specs.definitions.Image.{Images}
use Rattle.claim_agent.specs.declared.Space.{Space}
use Rattle.claim_agent.specs.declared.Space.TheVariants.{Memory, Io, Configuration}
use Rattle.claim_agent.specs.definitions.Space.{last_of}
use Rattle.claim_agent.specs.definitions.Claimants.{claimants}
use Rattle.check_search.specs.definitions.Check.{drivers_of, first_of}
use Rattle.held_laws.specs.definitions.Others.{other_claimants, other_drivers}

-- every member of a list
unfoldable pub Each : {A : Type 0} → (A → Type 0) → List A → Type 0
Each P [] = Unit {0}
Each P (x ∷ xs) = P x × Each P xs

-- x is the first member of a list for which Q does not speak: Q holds of all before it
pub record FirstOf {A : Type 0} (Q : A → Type 0) (l : List A) (x : A) : Type 0 where
  pub before : List A
  pub after : List A
  pub split : l ≡ before ++ (x ∷ after)
  pub clear : Each Q before

-- the kinds of access in the order in which a bus is checked
abbrev pub spaces : List Space
spaces = Configuration ∷ Memory ∷ Io ∷ []

-- the claimants of a space on a bus, for a driver and a value; the drivers of a bus in a space
abbrev pub ClaimantsOf : Type 0
ClaimantsOf = Space → ℕ → ℕ → ℕ → List ℕ

abbrev pub DriversOf : Type 0
DriversOf = ℕ → Space → List ℕ

module _ (who : ClaimantsOf) (drivers : DriversOf) where
  -- at most one claimant: for a driver, for all drivers of every value of a space, and for all spaces of a bus
  abbrev pub Clear : ℕ → Space → ℕ → ℕ → Type 0
  Clear bus space a driver = length (who space bus driver a) ≤ 1

  abbrev pub ClearAt : ℕ → Space → ℕ → Type 0
  ClearAt bus space a = Each (Clear bus space a) (drivers bus space)

  abbrev pub ClearIn : ℕ → Space → Type 0
  ClearIn bus space = (a : ℕ) → first_of space ≤ a → a ≤ last_of space → ClearAt bus space a

  abbrev pub ClearOn : ℕ → Type 0
  ClearOn bus = Each (ClearIn bus) spaces

-- what a check shows: the first bus, there the first kind, the lowest value and the first driver with two claimants, and the
-- first two of them; whatever comes before has at most one
pub record FirstClash (who : ClaimantsOf) (drivers : DriversOf) (t : Tree) (bus : ℕ) (space : Space) (a driver x y : ℕ) : Type 0 where
  pub bus_first : FirstOf (ClearOn who drivers) (buses t) bus
  pub space_first : FirstOf (ClearIn who drivers bus) spaces space
  pub from_first : first_of space ≤ a
  pub to_last : a ≤ last_of space
  pub lower : (b : ℕ) → first_of space ≤ b → b < a → ClearAt who drivers bus space b
  pub driver_first : FirstOf (Clear who drivers bus space a) (drivers bus space) driver
  pub two : (rest : List ℕ) × (who space bus driver a ≡ x ∷ (y ∷ rest))

-- among all agents of a bus
abbrev pub FirstFault : Tree → Images → ℕ → Space → ℕ → ℕ → ℕ → ℕ → Type 0
FirstFault t im = FirstClash (claimants t im) (drivers_of t) t

-- among those that are not held. 02, E5: 'The check counts no held node as claimant or driver'
abbrev pub FirstOther : Tree → Images → ℕ → Space → ℕ → ℕ → ℕ → ℕ → Type 0
FirstOther t im = FirstClash (other_claimants t im) (other_drivers t im) t
