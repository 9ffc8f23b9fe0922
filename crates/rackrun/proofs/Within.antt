-- What was read from standard input stands within the buffer.
use mathlib.Core.Path.{◌≡◌, sym}
use Prim.Native.Nat.{ℕ, ◌≤◌}
use mathlib.Core.List.{List}
use lib.ListN.{length, take}
use lib.Seq.{length-take-le}

pub read_counts : (n : ℕ) (buffer : List ℕ) → n ≤ length buffer → (n ≤ length buffer) × (n ≡ length (take n buffer))
read_counts n buffer h = (h, sym (length-take-le n buffer h))
