-- What a register write changes, with all that it does. Sentences are those of document 02, E5.
use Rattle.std.specs.Prelude.{◌≡◌, ◌⊎◌, true, false, cond, ℕ, ◌<◌}
use Rattle.rack.specs.definitions.Tree.{Tree}
use Rattle.register_header.specs.definitions.Register.{write_register}
use Rattle.register_image.specs.definitions.Image.{Images, view}
use Rattle.register_image.specs.definitions.Reset.{reset_part}
use Rattle.bus_reset.specs.definitions.Held.{is_below, resets, is_held}

-- im' is what a write of a register of node i leaves of im
pub record Stores (t : Tree) (im : Images) (i register enables put : ℕ) (im' : Images) : Type 0 where
  -- 'On a held node a direct write stores nothing'
  pub held : is_held t im i ≡ true → im' ≡ im
  pub own : is_held t im i ≡ false → i < t.count → view t im' i ≡ write_register (t.node i) (view t im i) register enables put
  -- 'only this write changes bytes outside its node's part': where bit 6 was set before, or is clear after it, no other node's registers
  -- change
  pub alone : (resets t im i ≡ true) ⊎ (resets t im' i ≡ false) → (j : ℕ) → (j ≡ i → ⊥) → view t im' j ≡ view t im j
  -- 'Writing 1, directly too, puts every node below back to reset registers', and no other
  pub sets : resets t im i ≡ false → resets t im' i ≡ true → (j : ℕ) → j < t.count → (j ≡ i → ⊥)
      → view t im' j ≡ cond (is_below t i j) (reset_part (t.node j)) (view t im j)
  -- 'holds it there'
  pub holds : resets t im' i ≡ true → (j : ℕ) → is_below t i j ≡ true → is_held t im' j ≡ true
  -- 'Clearing the bit lets them go': where it is clear after the write, a node above which no other bridge resets is not held
  pub lets_go : resets t im' i ≡ false → (j : ℕ) → ((b : ℕ) → (b ≡ i → ⊥) → is_below t b j ≡ true → resets t im b ≡ false)
      → is_held t im' j ≡ false
