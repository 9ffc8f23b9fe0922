-- A kind is known by its number.
use Rattle.std.specs.Prelude.{◌≡◌, refl}
use Rattle.rack.specs.declared.Kind.{Kind}
use Rattle.rack.specs.declared.Kind.TheVariants.{Device, Bridge, OlderBridge}
use Rattle.rack.specs.definitions.Node.{kind_number, kind_from}

pub kind_back : (k : Kind) → kind_from (kind_number k) ≡ k
kind_back Device = refl
kind_back Bridge = refl
kind_back OlderBridge = refl
