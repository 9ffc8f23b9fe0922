-- The shape of a file's record without a fault: none of 2 to 5 applies, so it stands where its class may.
use Rattle.std.specs.Prelude.{◌≡◌, false, List, ℕ}
use Rattle.std.proofs.Math.Bool.{true}
use Rattle.std.proofs.Common.{arith, lit<}
use Rattle.rack.specs.laws.FirstLaws.{when_not}
use Rattle.rack_laws.specs.laws.First.{list_none_given}
use Rattle.file_record.specs.definitions.Record.{class_in}
use Rattle.file_record.specs.definitions.Load.{Reading, follows_later, shape_faults, shape_fault, record_fault}
use Rattle.file_record.specs.laws.LoadLaws.{none_applies}

module _ (b : List ℕ) (s : Reading) (z : record_fault true b s ≡ 0) where
  pub shape : shape_fault true b (class_in b s.offset) s.offset s.registers s.events ≡ 0
  shape = none_applies true b s z 0 (lit< tt)

  pub in_place : follows_later (class_in b s.offset) s.registers s.events ≡ false
  unfolding shape_fault
  in_place =
      when_not 5 (follows_later (class_in b s.offset) s.registers s.events) (λ e. omega (arith, e))
      (list_none_given (shape_faults true b (class_in b s.offset) s.offset s.registers s.events) shape 3 (lit< tt))
