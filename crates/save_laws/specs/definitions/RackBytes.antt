-- The content of the rack bytes of a C call, spelt out by their records as document 02, E2 compares it.
use Rattle.std.specs.Prelude.{◌≡◌, true, List, ℕ}
use Rattle.seat.specs.declared.SeatRecord.{SeatRecord}
use Rattle.file_record.specs.declared.Class.TheVariants as class
use Rattle.file_record.specs.definitions.Record.{class_in, is_a, host_in, seat_in}
use Rattle.file_laws.specs.definitions.Records.{before, Stands}
use Rattle.save_laws.specs.definitions.Content.{SameMemory}
use Rattle.save_laws.specs.definitions.Listed.{node_records}

-- a seat record of the bytes says this seat, node and mask
pub record HasSeat (b : List ℕ) (r : SeatRecord) : Type 0 where
  pub place : ℕ
  pub stands : Stands b place
  pub is_seat_lem : is_a class.Seat (class_in b (before b place).offset) ≡ true
  pub says : seat_in b (before b place).offset ≡ r

-- the host's memory, the node records in their order, each with its kind, parent, device number, IDs and, of a device, regions, and the
-- seat records in any order: 'Grants are compared as a set'
pub record SameRecords (b c : List ℕ) : Type 0 where
  pub memory : SameMemory (host_in b 0) (host_in c 0)
  pub nodes : node_records b ≡ node_records c
  pub seats : (r : SeatRecord) → HasSeat b r → HasSeat c r
  pub no_others : (r : SeatRecord) → HasSeat c r → HasSeat b r
