-- An end whose tag is another than that of `Unclaimed`.
use mathlib.Core.Path.{◌≡◌, refl}
use mathlib.Core.List.{List, [], ◌∷◌}
use Prim.Native.Nat.{ℕ}
use types.Run.{OneOf, miss}
use denote.Enum.Declared as declared
use Rattle.route_bus.specs.contracts.End as end
use Rattle.route_bus.specs.declared.Outcome.{Outcome}
use Rattle.route_bus.specs.declared.End.{End}
use Rattle.route_bus.specs.declared.End.TheVariants.{Node, Owner, Host, Unclaimed, Clash, Special, Silent}
use Rattle.route_bus.specs.definitions.End.{if_unclaimed}

abbrev pub others : List ℕ
others = 0 ∷ 1 ∷ 2 ∷ 4 ∷ 5 ∷ 6 ∷ []

pub not_unclaimed : {A : Type 0} (f : ℕ → Outcome → A) (other : A) (e : End) → OneOf others (declared.tag_of end.the_type e)
    → if_unclaimed f other e ≡ other
unfolding if_unclaimed
not_unclaimed f other (Node g) k = refl
not_unclaimed f other (Owner g r o) k = refl
not_unclaimed f other (Host o) k = refl
not_unclaimed f other (Unclaimed holder o) k = absurd (miss others 3 tt k)
not_unclaimed f other (Clash holder y z) k = refl
not_unclaimed f other (Special holder) k = refl
not_unclaimed f other Silent k = refl
