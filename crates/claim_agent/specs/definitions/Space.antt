-- The three spaces in which an access is claimed.
use Rattle.std.specs.Prelude.{ℕ, ◌-◌, ◌^◌}
use Rattle.claim_agent.specs.declared.Space.{Space}
use Rattle.claim_agent.specs.declared.Space.TheVariants.{Memory, Io, Configuration}

-- 02, E9: 'space (0 memory, 1 I/O)'; configuration comes after them
abbrev pub space_number : Space → ℕ
space_number Memory = 0
space_number Io = 1
space_number Configuration = 2

-- the last address of a space; of configuration the last bus number
abbrev pub last_of : Space → ℕ
last_of Memory = 2 ^ 64 - 1
last_of Io = 2 ^ 32 - 1
last_of Configuration = 255
