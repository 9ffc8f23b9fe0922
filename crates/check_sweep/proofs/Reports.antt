-- What a bus and a rack report, from what the code found.
use mathlib.Core.Path.{◌≡◌, sym, ap, ◌∙◌}
use mathlib.Core.Bool.{Bool, true, false, cond}
use Rattle.std.specs.Prelude.{Err}
use Prim.Native.Nat.{ℕ, ◌+◌, ◌-◌, ◌≤◌, ◌<◌}
use native.Mathlib.Omega.{arith}
use lib.ListN.{length}
use Rattle.rack.specs.declared.Node.{Node}
use Rattle.rack.specs.definitions.Node.{is_bridge}
use Rattle.rack.specs.definitions.Tree.{Tree, host, agents, bridges_from}
use Rattle.register_image.specs.definitions.Image.{Images}
use Rattle.claim_agent.specs.declared.Space.TheVariants.{Memory, Io, Configuration}
use Rattle.check_search.specs.declared.Fault.{Fault}
use Rattle.check_search.specs.definitions.Report.{Report, Pass}
use Rattle.check_search.specs.definitions.Check.{or_else, first_in, in_space, bus_report, check}
use Rattle.check_search.proofs.StretchLaws.{two_agents}
use Rattle.check_search.specs.laws.FirstLaws.{else_found, else_next, else_pass, in_step, bridges_step, bridges_end}

module _ (t : Tree) (im : Images) (bus : ℕ) {c : Report} (ec : c ≡ in_space t im bus Configuration) where
  abbrev behind : Report
  behind = or_else (in_space t im bus Memory) (in_space t im bus Io)

  spaces : bus_report t im bus ≡ or_else (in_space t im bus Configuration) behind
  unfolding bus_report first_in
  spaces =
      ap (λ (r : Report). or_else (in_space t im bus Configuration) (or_else (in_space t im bus Memory) r))
      (else_pass (in_space t im bus Io))

  -- a fault of configuration is the bus's
  pub configuration_found : {f : Fault} → c ≡ Err f → Err f ≡ bus_report t im bus
  configuration_found q = else_found behind spaces ec q

  module _ (q : c ≡ Pass) {m : Report} (em : m ≡ in_space t im bus Memory) where
    -- without one, memory's is
    pub memory_found : {f : Fault} → m ≡ Err f → Err f ≡ bus_report t im bus
    memory_found p = else_found (in_space t im bus Io) (else_next behind spaces ec q) em p

    -- and without that, the bus says what I/O says
    pub io_left : m ≡ Pass → {i : Report} → i ≡ in_space t im bus Io → i ≡ bus_report t im bus
    io_left p ei = ei ∙ sym (else_next (in_space t im bus Io) (else_next behind spaces ec q) em p)

-- two agents cannot clash
pub few_pass : (t : Tree) (im : Images) (bus : ℕ) {n : ℕ} → n ≡ length (agents t bus) → n ≤ 2 → Pass ≡ bus_report t im bus
few_pass t im bus at few = sym (two_agents t im bus (omega arith))

module _ (node : Node) (x : Report) {n : Node} {b : Bool} (en : n ≡ node) (eb : b ≡ is_bridge n.kind) where
  is : is_bridge node.kind ≡ b
  is = sym (eb ∙ ap (λ (m : Node). is_bridge m.kind) en)

  -- a bridge holds a bus
  pub bridge_holds : b ≡ true → {r : Report} → r ≡ x → r ≡ cond (is_bridge node.kind) x Pass
  bridge_holds q e = rw (is, q) e

  -- a device holds none
  pub device_holds : b ≡ false → Pass ≡ cond (is_bridge node.kind) x Pass
  device_holds q = rw (is, q)

module _ (t : Tree) (im : Images) where
  -- the first fault among the bridges from node i on
  abbrev pub from : ℕ → Report
  from i = first_in (bus_report t im) (bridges_from t i (t.count - i))

  whole : check t im ≡ or_else (bus_report t im host) (from 0)
  unfolding check
  whole =
      let e : t.count ≡ t.count - 0 = omega arith in
      in_step (bus_report t im) host (bridges_from t 0 t.count)
      ∙ ap (λ (k : ℕ). or_else (bus_report t im host) (first_in (bus_report t im) (bridges_from t 0 k))) e

  module _ {r : Report} (er : r ≡ bus_report t im host) where
    -- a fault of the root bus is the rack's
    pub root_found : {f : Fault} → r ≡ Err f → Err f ≡ check t im
    root_found q = else_found (from 0) whole er q

    -- without one, the bridges are asked
    pub root_left : r ≡ Pass → check t im ≡ from 0
    root_left q = else_next (from 0) whole er q

  module _ {i n : ℕ} (inv : check t im ≡ from i) (at : n ≡ t.count) where
    module _ (l : i < n) {r : Report} (er : r ≡ cond (is_bridge (t.node i).kind) (bus_report t im i) Pass) where
      step : check t im ≡ or_else (cond (is_bridge (t.node i).kind) (bus_report t im i) Pass) (from (i + 1))
      step = inv ∙ bridges_step t (bus_report t im) t.count i (rw at at l)

      -- a fault of the bus that node i holds is the rack's
      pub held_found : {f : Fault} → r ≡ Err f → Err f ≡ check t im
      held_found q = else_found (from (i + 1)) step er q

      -- without one, the next node is asked
      pub held_left : r ≡ Pass → check t im ≡ from (i + 1)
      held_left q = else_next (from (i + 1)) step er q

    -- after the last node the rack passes
    pub none_found : n ≤ i → Pass ≡ check t im
    none_found l = sym (inv ∙ bridges_end t (bus_report t im) t.count i (rw at at l))
