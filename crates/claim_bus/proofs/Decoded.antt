-- An agent and a window, from what the code has read of them.
use mathlib.Core.Path.{◌≡◌}
use mathlib.Core.Bool.{Bool, true, false}
use mathlib.Core.List.{List, [], ◌∷◌}
use mathlib.Core.Logic.{◌≢◌}
use Prim.Native.Nat.{ℕ, ◌<◌}
use borrow.Author.Tests.{ne_eqb, lt-ltb}
use lib.ListN.{get_or}
use Rattle.rack.specs.declared.Kind.{Kind}
use Rattle.rack.specs.declared.Node.{Node}
use Rattle.rack.specs.declared.Range.{Range}
use Rattle.rack.specs.definitions.Node.{is_bridge}
use Rattle.rack.specs.definitions.Tree.{Tree}
use Rattle.register_header.specs.declared.Options.{Options}
use Rattle.register_header.specs.definitions.Options.{options_of}
use Rattle.register_header.specs.definitions.PciRegs.{COMMAND, COMMAND_IO, COMMAND_MEMORY, COMMAND_MASTER, SECONDARY_BUS, SUBORDINATE_BUS}
use Rattle.register_header.specs.definitions.Register.{bit_at}
use Rattle.register_image.specs.definitions.Image.{Images, view}
use Rattle.claim_window.specs.declared.Area.{Area}
use Rattle.claim_window.specs.declared.Windows.{Windows}
use Rattle.claim_window.specs.definitions.Range.{range, empty}
use Rattle.claim_window.specs.definitions.Window.{windows_of}
use Rattle.claim_agent.specs.definitions.Agent.{bridge_of, area_in, device_of}
use Rattle.claim_agent.specs.definitions.WindowEnds.{window_in, window_ends}

module _ (part : List ℕ) {c : ℕ} (ec : c ≡ get_or part COMMAND 0) where
  pub bridge_is : (k : Kind) {o : Options} {io memory master : Bool} {w : Windows} {s u : ℕ} {b : Range} → o ≡ options_of k → w ≡ windows_of o part → s ≡ get_or part SECONDARY_BUS 0
      → u ≡ get_or part SUBORDINATE_BUS 0 → b ≡ range s u → io ≡ bit_at c COMMAND_IO → memory ≡ bit_at c COMMAND_MEMORY
      → master ≡ bit_at c COMMAND_MASTER
      → record {
        io = io;
        memory = memory;
        master = master;
        windows = w;
        buses = b;
      } ≡ bridge_of (options_of k) part
  unfolding bridge_of
  bridge_is k eo ew es eu eb ei em ea = rw (ei, em, ea, ew, eo, eb, es, eu, ec)

  pub device_is : (n : Node) {io memory : Bool} {x y z : Area} → x ≡ area_in n part 0 → y ≡ area_in n part 1
      → z ≡ area_in n part 2 → io ≡ bit_at c COMMAND_IO → memory ≡ bit_at c COMMAND_MEMORY
      → record {
        io = io;
        memory = memory;
        areas = x ∷ y ∷ z ∷ [];
      } ≡ device_of n part
  unfolding device_of
  device_is n ex ey ez ei em = rw (ei, em, ex, ey, ez, ec)

-- window k
module _ (w : Windows) {k : ℕ} where
  pub window_0 : k ≡ 0 → w.memory ≡ window_in w k
  unfolding window_in
  window_0 e = rw e

  pub window_1 : k ≡ 1 → w.prefetchable ≡ window_in w k
  unfolding window_in
  window_1 e = rw e

  pub window_2 : k ≡ 2 → w.io ≡ window_in w k
  unfolding window_in
  window_2 e = rw e

  pub window_none : k ≢ 0 → k ≢ 1 → k ≢ 2 → empty ≡ window_in w k
  unfolding window_in
  window_none x y z = rw (ne_eqb k 0 x, ne_eqb k 1 y, ne_eqb k 2 z)

-- a window or region k of node i
module _ (t : Tree) (im : Images) (i k : ℕ) {n : Node} {part : List ℕ} {b : Bool} {r : Range} (h : k < 3) (en : n ≡ t.node i)
    (ep : part ≡ view t im i) (eb : b ≡ is_bridge n.kind) where
  pub ends_window : {o : Options} {w : Windows} → b ≡ true → o ≡ options_of n.kind → w ≡ windows_of o part → r ≡ window_in w k → r ≡ window_ends t im i k
  unfolding window_ends
  ends_window q eo ew er = simp (lt-ltb k 3 h, ← en, ← eb, q, ← ep, er, ew, eo)

  pub ends_region : {s : Area} → b ≡ false → s ≡ area_in n part k → r ≡ s.range → r ≡ window_ends t im i k
  unfolding window_ends
  ends_region q es er = simp (lt-ltb k 3 h, ← en, ← eb, q, ← ep, er, es)
