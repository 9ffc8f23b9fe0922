-- The number that a refusal has, and 0 for none: 01 numbers them, files and C get these numbers.
use Rattle.std.specs.Prelude.{ℕ, Result, Ok, Err}
use Rattle.rack.specs.declared.refusal.Refusal.{Refusal}
use Rattle.rack.specs.declared.refusal.Refusal.TheVariants.{TooLong, UnknownKind, CutShort, HostMisplaced, Misordered, TooManyNodes, BadParent, HighDevice, TakenDevice, BadRegion, WrongLength, FixedBit, BadField, BadSeatRecord, UnknownSeat, MisplacedRegisters, BadRegisters, HeldRegisters, BadArbitration}

abbrev pub refusal_number : Refusal → ℕ
refusal_number TooLong = 1
refusal_number UnknownKind = 2
refusal_number CutShort = 3
refusal_number HostMisplaced = 4
refusal_number Misordered = 5
refusal_number TooManyNodes = 6
refusal_number BadParent = 7
refusal_number HighDevice = 8
refusal_number TakenDevice = 9
refusal_number BadRegion = 10
refusal_number WrongLength = 11
refusal_number FixedBit = 12
refusal_number BadField = 13
refusal_number BadSeatRecord = 14
refusal_number UnknownSeat = 15
refusal_number MisplacedRegisters = 16
refusal_number BadRegisters = 17
refusal_number HeldRegisters = 18
refusal_number BadArbitration = 20

-- of what may be refused: the refusal's number, 0 where it is accepted
abbrev pub number_of : {A : Type 0} → Result A Refusal → ℕ
number_of (Ok x) = 0
number_of (Err r) = refusal_number r
