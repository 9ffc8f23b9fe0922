-- A status bit past the end is not set.
use Rattle.std.proofs.Common.{◌≡◌, ℕ, ◌≤◌, List, length, sym}
use lib.Seq.{set_out}
use Rattle.rack.specs.declared.Node.{Node}
use Rattle.register_header.specs.declared.Side.{Side}
use Rattle.register_header.specs.declared.StatusBit.{StatusBit}
use Rattle.register_header.specs.definitions.Register.{status_at, set_status}

pub status_past : (n : Node) (p : List ℕ) (side : Side) (bit : StatusBit) {at : ℕ} → at ≡ status_at n.kind side → length p ≤ at
    → p ≡ set_status n p side bit
unfolding set_status
status_past n p side bit e h = rw (← e) (sym (set_out p _ _ h))
