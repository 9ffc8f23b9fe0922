-- What a function that reads has of a reading.
use Rattle.std.specs.Prelude.{◌≡◌, ℕ, List, Result, Ok, Err, IfOk}
use Rattle.rack.specs.declared.refusal.Refusal.{Refusal}
use Rattle.rack.specs.definitions.Refused.{refusal_number, number_of}
use Rattle.rack.specs.definitions.Table.{tree_of}
use Rattle.seat.specs.definitions.Table.{grants_of}
use Rattle.file_record.specs.declared.Loaded.{Loaded}
use Rattle.file_record.specs.declared.Refused.{Refused}
use Rattle.file_record.specs.declared.Walk.{Walk}
use Rattle.file_record.specs.definitions.Load.{Reading, Loading}

-- the reading that a walk has come to, with the tables of its rack and of the rack's grants
abbrev pub reading_of : Walk → List ℕ → List ℕ → Reading
reading_of w table grants =
    record { offset = w.offset; registers = w.registers; events = w.events; least = w.least; tree = tree_of table; grants = grants_of grants }

-- a step past a record: its fault; where there is none, the reading after it
pub record Steps (r : Result Walk Refusal) (table grants : List ℕ) (fault : ℕ) (next : Reading) : Type 0 where
  pub refusal : number_of r ≡ fault
  pub reading : IfOk r (λ w. reading_of w table grants ≡ next)

-- what is read has no refusal: the offsets, and tables that hold the rack and its grants
pub record Accepts (r : Loaded) (d : Loading) : Type 0 where
  pub refusal : 0 ≡ d.refusal
  pub offset : r.offset ≡ d.offset
  pub registers : r.registers ≡ d.registers
  pub tree : tree_of r.table ≡ d.tree
  pub grants : grants_of r.grants ≡ d.grants

-- the refusal and its offset
pub record Refuses (r : Refused) (d : Loading) : Type 0 where
  pub refusal : refusal_number r.refusal ≡ d.refusal
  pub offset : r.offset ≡ d.offset

-- one of the two
abbrev pub Loads : Result Loaded Refused → Loading → Type 0
Loads (Ok r) d = Accepts r d
Loads (Err r) d = Refuses r d
