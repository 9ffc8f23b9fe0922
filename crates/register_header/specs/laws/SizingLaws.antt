-- Laws of sizing.
use Rattle.std.specs.Prelude.{◌≡◌, refl, List, ℕ}
use Rattle.rack.specs.declared.Node.{Node}
use Rattle.register_header.specs.definitions.Sizing.{size_part}

-- a region of kind 0 has size 0
pub kind_none : (n : Node) (part : List ℕ) (register : ℕ) → size_part n part 0 register ≡ 0
unfolding size_part
kind_none n part register = refl
