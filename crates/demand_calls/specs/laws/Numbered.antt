-- What an answer's number says of the end of its route.
use Rattle.std.specs.Prelude.{◌≡◌, Ok, Err, ℕ, ◌<◌}
use Rattle.std.proofs.Common.{sym, arith}
use Rattle.rack.specs.definitions.Tree.{Tree}
use Rattle.rack.specs.laws.Bools.{tested}
use Rattle.seat.specs.definitions.Grants.{Acting, may_write}
use Rattle.register_image.specs.definitions.Image.{Images}
use Rattle.route_bus.specs.declared.Access.{Access}
use Rattle.route_bus.specs.declared.End.{End}
use Rattle.route_bus.specs.declared.End.TheVariants as end
use Rattle.route_laws.specs.definitions.Ends.{end_number}
use Rattle.check_search.specs.definitions.Report.{Report}
use Rattle.event_run.specs.declared.Answer.TheVariants.{Checked}
use Rattle.event_run.specs.definitions.Answers.{answer_number}
use Rattle.event_run.specs.definitions.Run.{register_of, reached, ended_at}

-- 1, 2 and 10 are those of a register that was read or written, or might not be; every other is its end's
pub ended_number : (t : Tree) (by : Acting) (im : Images) (x : Access) (c : ℕ) (e : End) {n : ℕ} → answer_number (ended_at t by im x c e).answer ≡ n
    → 2 < n → (n ≡ 10 → ⊥) → end_number e ≡ n
unfolding ended_at reached register_of
ended_number t by im x c (end.Node g) {n} q l ne =
    tested x.write
    (λ w.
    tested (may_write by g x.register) (λ m. let z : 2 ≡ n = rw (w, m) at q in absurd (omega arith))
    (λ m. let z : 10 ≡ n = rw (w, m) at q in absurd (ne (sym z))))
    (λ w. let z : 1 ≡ n = rw w at q in absurd (omega arith))
ended_number t by im x c (end.Owner g r o) q l ne = q
ended_number t by im x c (end.Host o) q l ne = q
ended_number t by im x c (end.Unclaimed k o) q l ne = q
ended_number t by im x c (end.Clash k y z) q l ne = q
ended_number t by im x c (end.Special k) q l ne = q
ended_number t by im x c end.Silent q l ne = q

-- a check's are 8 and 9
pub checked_number : (r : Report) {n : ℕ} → answer_number (Checked r) ≡ n → (n ≡ 8 → ⊥) → (n ≡ 9 → ⊥) → ⊥
checked_number (Ok _) q pass fault = pass (sym q)
checked_number (Err f) q pass fault = fault (sym q)
