-- An end is unclaimed, or what is made of it is what is made of every other.
use Rattle.std.specs.Prelude.{◌≡◌, refl, ℕ}
use Rattle.route_bus.specs.declared.Outcome.{Outcome}
use Rattle.route_bus.specs.declared.End.{End}
use Rattle.route_bus.specs.declared.End.TheVariants.{Node, Owner, Host, Unclaimed, Clash, Special, Silent}
use Rattle.route_bus.specs.definitions.End.{if_unclaimed}

pub by_end : {P : Type 0} (e : End) → ((holder : ℕ) (o : Outcome) → e ≡ Unclaimed holder o → P)
    → (((A : Type 0) (f : ℕ → Outcome → A) (other : A) → if_unclaimed f other e ≡ other) → P) → P
unfolding if_unclaimed
by_end (Node g) u v = v (λ A f other. refl)
by_end (Owner g r o) u v = v (λ A f other. refl)
by_end (Host o) u v = v (λ A f other. refl)
by_end (Unclaimed holder o) u v = u holder o refl
by_end (Clash holder y z) u v = v (λ A f other. refl)
by_end (Special holder) u v = v (λ A f other. refl)
by_end Silent u v = v (λ A f other. refl)
