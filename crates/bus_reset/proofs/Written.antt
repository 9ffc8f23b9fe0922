-- What a write leaves, from what the code has asked.
use mathlib.Core.Path.{◌≡◌}
use mathlib.Core.Bool.{Bool, true, false, cond}
use Prim.Native.Nat.{ℕ}
use Rattle.rack.specs.definitions.Tree.{Tree}
use Rattle.register_image.specs.definitions.Image.{Images, write_node}
use Rattle.register_image.specs.definitions.Reset.{reset_node}
use Rattle.bus_reset.specs.definitions.Held.{is_below, resets, is_held}
use Rattle.bus_reset.specs.definitions.Store.{reset_below, below_reset, store_node}

module _ (t : Tree) (im : Images) (b i : ℕ) {below : Bool} (e : below ≡ is_below t b i) where
  pub is_below_lem : {after : Images} → below ≡ true → after ≡ reset_node t im i → after ≡ cond (is_below t b i) (reset_node t im i) im
  is_below_lem q r = rw (← e, q) r

  pub not_below : below ≡ false → im ≡ cond (is_below t b i) (reset_node t im i) im
  not_below q = rw (← e, q)

module _ (t : Tree) (im : Images) (b : ℕ) {on : Bool} (e : on ≡ resets t im b) where
  pub bit_set : {after : Images} → on ≡ true → after ≡ reset_below t im b → after ≡ below_reset t im b
  unfolding below_reset
  bit_set q r = rw (← e, q) r

  pub bit_clear : on ≡ false → im ≡ below_reset t im b
  unfolding below_reset
  bit_clear q = rw (← e, q)

module _ (t : Tree) (im : Images) (i register enables put : ℕ) {held : Bool} (e : held ≡ is_held t im i) where
  pub held_stores : held ≡ true → im ≡ store_node t im i register enables put
  unfolding store_node
  held_stores q = rw (← e, q)

  pub free_stores : {written after : Images} → held ≡ false → written ≡ write_node t im i register enables put
      → after ≡ below_reset t written i → after ≡ store_node t im i register enables put
  unfolding store_node
  free_stores q w a = rw (← e, q, ← w) a
