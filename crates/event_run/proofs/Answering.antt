-- What each event answers, after the code has run it.
use mathlib.Core.Path.{◌≡◌, ap, ◌∙◌}
use mathlib.Core.Bool.{Bool, true, false, not, ◌&&◌}
use Prim.Native.Nat.{ℕ}
use Rattle.rack.specs.definitions.Tree.{Tree}
use Rattle.seat.specs.definitions.Grants.{Acting, may_write}
use Rattle.register_header.specs.definitions.Register.{read_register}
use Rattle.register_image.specs.definitions.Image.{Images, Result, view, gives}
use Rattle.bus_reset.specs.definitions.Store.{store_node}
use Rattle.claim_agent.specs.declared.Space.TheVariants as space
use Rattle.route_bus.specs.declared.Access.{Access}
use Rattle.route_bus.specs.declared.End.{End}
use Rattle.route_bus.specs.declared.End.TheVariants as end
use Rattle.route_bus.specs.declared.Route.{Route}
use Rattle.check_search.specs.definitions.Report.{Report}
use Rattle.check_search.specs.definitions.Check.{check}
use Rattle.file_record.specs.declared.Event.{Event}
use Rattle.file_record.specs.declared.Event.TheVariants.{Write, Read, Memory, Io, Check, Seat}
use Rattle.event_run.specs.declared.Ending.TheVariants.{Data, Stored, Denied}
use Rattle.event_run.specs.declared.Answer.{Answer}
use Rattle.event_run.specs.declared.Answer.TheVariants.{Checked, Seated}
use Rattle.event_run.specs.definitions.Run.{configuration, addressed, answers, register_of, reached, ended_at, ended, configured, accessed, event_run}

-- a register of the node that was reached
module _ (t : Tree) (im : Images) (x : Access) (crossings g : ℕ) where
  pub stores : {v : Images} → x.write ≡ true → v ≡ store_node t im g x.register x.enables x.«data»
      → answers crossings Stored v ≡ register_of t im x crossings g
  unfolding register_of
  stores w e = rw w (ap (answers crossings Stored) e)

  pub reads : {value : ℕ} → x.write ≡ false → value ≡ read_register (view t im g) x.register
      → answers crossings (Data value) im ≡ register_of t im x crossings g
  unfolding register_of
  reads w e = rw w (ap (λ (k : ℕ). answers crossings (Data k) im) e)

  module _ (by : Acting) {may y : Bool} (em : may ≡ may_write by g x.register) (ey : y ≡ x.write && not may) where
    pub denies : y ≡ true → answers crossings Denied im ≡ reached t by im x crossings g
    unfolding reached
    denies w = rw (← em, ← ey, w)

    pub lets : {a : Result Answer} → y ≡ false → a ≡ register_of t im x crossings g → a ≡ reached t by im x crossings g
    unfolding reached
    lets w e = rw (← em, ← ey, w) e

  pub reaches : (by : Acting) (e : End) {a : Result Answer} → e ≡ end.Node g → a ≡ reached t by im x crossings g
      → a ≡ ended_at t by im x crossings e
  unfolding ended_at
  reaches by e ee ea = rw ee ea

-- an access, from its route
pub routed : (t : Tree) (by : Acting) (x : Access) {r : Route} {v : Images} {o : Result Route} {a : Result Answer} → gives r v ≡ o
    → a ≡ ended_at t by v x r.crossings r.end → a ≡ ended t by x o
routed t by x e q = q ∙ ap (ended t by x) e

module _ (t : Tree) (by : Acting) (im : Images) (e : Event) {x : Access} {a : Result Answer} where
  pub write_answered : {bus devfn register enables put : ℕ} → e ≡ Write bus devfn register enables put
      → x ≡ configuration true bus devfn register enables put → a ≡ configured t by im x → a ≡ event_run t by im e
  unfolding event_run
  write_answered ee ex ea = rw ee (ea ∙ ap (configured t by im) ex)

  pub read_answered : {bus devfn register : ℕ} → e ≡ Read bus devfn register
      → x ≡ configuration false bus devfn register 0 0 → a ≡ configured t by im x → a ≡ event_run t by im e
  unfolding event_run
  read_answered ee ex ea = rw ee (ea ∙ ap (configured t by im) ex)

  pub memory_answered : {initiator direction address : ℕ} → e ≡ Memory initiator direction address
      → x ≡ addressed space.Memory direction address → a ≡ accessed t by im x initiator → a ≡ event_run t by im e
  unfolding event_run
  memory_answered {initiator} ee ex ea = rw ee (ea ∙ ap (λ (k : Access). accessed t by im k initiator) ex)

  pub io_answered : {initiator direction address : ℕ} → e ≡ Io initiator direction address
      → x ≡ addressed space.Io direction address → a ≡ accessed t by im x initiator → a ≡ event_run t by im e
  unfolding event_run
  io_answered {initiator} ee ex ea = rw ee (ea ∙ ap (λ (k : Access). accessed t by im k initiator) ex)

-- the check leaves both images as they were, and so does a seat event
module _ (t : Tree) (by : Acting) (im : Images) (e : Event) where
  pub check_answered : {r : Report} → e ≡ Check → r ≡ check t im → gives (Checked r) im ≡ event_run t by im e
  unfolding event_run
  check_answered ee er = rw (ee, er)

  pub seat_answered : {next : ℕ} → e ≡ Seat next → gives (Seated next) im ≡ event_run t by im e
  unfolding event_run
  seat_answered ee = rw ee
