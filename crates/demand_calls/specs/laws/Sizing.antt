-- Sizing over the call `size_region`: 'A region has 2 to the e bytes', 'A kind 0 region has size 0'.
use Rattle.std.specs.Prelude.{◌≡◌, cond, ℕ, ◌^◌, ltb, eqb, Ok}
use Rattle.std.proofs.Common.{ap, ◌∙◌, arith, leb-false, ltb-false}
use Rattle.rack.specs.declared.Rack.{Rack}
use Rattle.rack.specs.laws.Bools.{neither}
use Rattle.rack.specs.laws.FirstLaws.{unless_none}
use Rattle.rack.specs.definitions.Node.{is_bridge, region_in}
use Rattle.rack.specs.definitions.Grow.{tree}
use Rattle.seat.specs.definitions.Grants.{grants}
use Rattle.register_image.specs.definitions.Image.{Images}
use Rattle.register_laws.specs.laws.Sizes.{accepted_size}
use Rattle.call_table.specs.definitions.Call.{refusal_by, region_refusal, missing, size_in}
use Rattle.demand_calls.specs.laws.Refusing.{accepted, field_right}

pub size_accepted : (rack : Rack) (im : Images) (i r : ℕ) → refusal_by (tree rack) (grants rack) im (region_refusal (tree rack) i r) 0 ≡ 0
    → size_in (tree rack) (grants rack) im i r
    ≡ Ok (cond (eqb (region_in ((tree rack).node i) r).kind 0) 0 (2 ^ (region_in ((tree rack).node i) r).exponent))
unfolding size_in
size_accepted rack im i r z =
    let t = tree rack in
    let a = accepted t (grants rack) im (region_refusal t i r) 0 z in
    let s = neither (missing t i) _ (field_right a.2) in
    let k = neither (is_bridge (t.node i).kind) (ltb 2 r) s.1 in
    unless_none _ _ z
    ∙ ap Ok
    (accepted_size rack im i r a.0 a.1 (leb-false t.count i s.0) k.0 (omega (arith, ltb-false 2 r k.1)))
