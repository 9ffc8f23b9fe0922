-- Refusal 10 by a search of a node's three regions.
use Rattle.std.specs.Prelude.{◌≡◌, refl, ℕ, zero, suc, ◌<◌, Bool, true, false, ◌&&◌, length}
use Rattle.std.proofs.Common.{sym, arith}
use Rattle.std.specs.Bool.{MatchBool}
use Rattle.std.specs.List.{AllWithin, HoldsAt}
use mathlib.Core.Bool.{and-false}
use Rattle.rack.specs.declared.Node.{Node}
use Rattle.rack.specs.declared.Region.{Region}
use Rattle.rack.specs.definitions.Node.{no_region, region_in}
use Rattle.rack.specs.definitions.Refusal.{region_range, regions_range}

abbrev in_range : Region → Bool
in_range r = region_range r.kind r.exponent

one_out : (n : Node) (k : ℕ) → k < 3 → in_range (region_in n k) ≡ false → regions_range n ≡ false
one_out n zero l e = rw e
one_out n (suc zero) l e = rw (e, and-false (in_range (region_in n 0)))
one_out n (suc (suc zero)) l e = rw (e, and-false (in_range (region_in n 0) && in_range (region_in n 1)))
one_out n (suc (suc (suc k))) l e = absurd (omega arith)

pub all_in_range : (n : Node) (r : Bool) → length n.regions ≡ 3
    → MatchBool r (AllWithin (λ r. in_range r ≡ true) n.regions 0 (length n.regions))
    ((k : ℕ) × (k < length n.regions) × HoldsAt (λ r. in_range r ≡ false) n.regions k) → r ≡ regions_range n
all_in_range n true long h =
    sym (rw (h 0 no_region (omega arith) (omega (arith, long)), h 1 no_region (omega arith) (omega (arith, long)), h 2 no_region (omega arith) (omega (arith, long))) refl)
all_in_range n false long h = sym (one_out n h.0 (omega (arith, long, h.1)) (h.2 no_region))
