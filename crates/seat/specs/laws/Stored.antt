-- Grants part by part, and the pairs that a table has a place for.
use Rattle.std.specs.Prelude.{◌≡◌, Bool, true, ◌&&◌, ℕ, ◌≤◌, ◌<◌, leb, ltb}
use Rattle.std.proofs.Math.Path.{fun_ext}
use Rattle.std.proofs.Common.{arith, ltb-true, leb-true}
use Rattle.rack.specs.declared.Grant.{Grant}
use Rattle.rack.specs.laws.Bools.{both}
use Rattle.seat.specs.definitions.Grants.{Grants, is_pair, slot}

-- grants are the same whose parts are
pub grants_same : {f h : ℕ → ℕ → Grant} {v w : Bool} → ((seat node : ℕ) → f seat node ≡ h seat node) → v ≡ w
    → ◌≡◌ {A = Grants} (record { grant = f; wrong = v }) (record { grant = h; wrong = w })
grants_same {f} {h} e q =
    let p : f ≡ h = fun_ext (λ seat. fun_ext (λ node. e seat node)) in
    rw (p, q)

-- what a pair is
pub pair_is : (seat node : ℕ) → is_pair seat node ≡ true → (1 ≤ seat) × (seat ≤ 15) × (node < 96)
pair_is seat node e =
    let n = both (leb 1 seat && leb seat 15) (ltb node 96) e in
    let s = both (leb 1 seat) (leb seat 15) n.0 in
    (leb-true 1 seat s.0, leb-true seat 15 s.1, ltb-true node 96 n.1)

-- its place is one of 1,440
pub pair_below : (seat node : ℕ) → is_pair seat node ≡ true → slot seat node < 1440
pair_below seat node e = omega (arith, pair_is seat node e)
