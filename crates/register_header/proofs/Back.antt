-- All ones read back, and what was there before written again, from what the code has read and written.
use mathlib.Core.Path.{◌≡◌}
use mathlib.Core.List.{List}
use Prim.Native.Nat.{ℕ, ◌-◌, ◌^◌}
use Rattle.rack.specs.declared.Node.{Node}
use Rattle.register_header.specs.definitions.Register.{read_register, write_register}
use Rattle.register_header.specs.definitions.Sizing.{read_back, written_back}

module _ (n : Node) (part : List ℕ) (register : ℕ) {v : List ℕ} (e : v ≡ write_register n part register 15 (2 ^ 32 - 1)) where
  pub back_seen : {seen : ℕ} → seen ≡ read_register v register → seen ≡ read_back n part register
  unfolding read_back
  back_seen r = rw (r, e)

  pub back_written : {saved : ℕ} {w : List ℕ} → saved ≡ read_register part register → w ≡ write_register n v register 15 saved
      → w ≡ written_back n part register
  unfolding written_back
  back_written s r = rw (r, s, e)
