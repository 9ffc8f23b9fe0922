-- Where a route ends, what one bridge or initiator on the way back asks of it, and 01's number for each outcome.
use Rattle.std.specs.Prelude.{ℕ}
use Rattle.register_image.specs.definitions.Image.{Images, Result, gives}
use Rattle.route_bus.specs.declared.Outcome.{Outcome}
use Rattle.route_bus.specs.declared.Outcome.TheVariants.{Abort, Done, Target}
use Rattle.route_bus.specs.declared.End.{End}
use Rattle.route_bus.specs.declared.End.TheVariants.{Node, Owner, Host, Unclaimed, Clash, Special, Silent}
use Rattle.route_bus.specs.declared.Route.{Route}

-- what is made of an unclaimed access, and of every other
unfoldable pub if_unclaimed : {A : Type 0} → (ℕ → Outcome → A) → A → End → A
if_unclaimed f other (Node g) = other
if_unclaimed f other (Owner g r o) = other
if_unclaimed f other (Host o) = other
if_unclaimed f other (Unclaimed holder o) = f holder o
if_unclaimed f other (Clash holder y z) = other
if_unclaimed f other (Special holder) = other
if_unclaimed f other Silent = other

-- an end that was reached without a crossing
abbrev pub ends : End → Images → Result Route
ends e im = gives (record { crossings = 0; end = e }) im

-- 01: '`abort` (no crossing), `done` or `target`'
abbrev pub outcome_number : Outcome → ℕ
outcome_number Abort = 0
outcome_number Done = 1
outcome_number Target = 2
