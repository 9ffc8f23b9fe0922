-- Powers of two as the code makes them.
use mathlib.Core.Path.{◌≡◌}
use Prim.Native.Nat.{ℕ, ◌-◌, ◌^◌, ◌≤◌}
use native.Mathlib.Omega.{arith}
use lib.Pow.{pow_mono}

-- no bit of a dword is at or above place 32
pub none_above : (e : ℕ) → 32 ≤ e → 0 ≡ 2 ^ 32 - 2 ^ e
none_above e h = omega (arith, pow_mono h)
