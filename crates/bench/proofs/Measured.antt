-- What is shown of a route, and after a number of checks.
use mathlib.Core.Path.{◌≡◌, refl, ap, ◌∙◌}
use Prim.Native.Nat.{ℕ, ◌+◌, ◌≤◌}
use native.Mathlib.Omega.{arith}
use borrow.Author.Tests.{eq-eqb, ne_eqb}
use Rattle.std.specs.Prelude.{true, false, Ok, Err, Result as StdResult}
use Rattle.std.specs.Result.{is_err}
use Rattle.std.proofs.lemmas.Bool.{false≢true}
use mathlib.Core.Bool.{true≢false}
use Rattle.rack.specs.declared.refusal.Refusal.{Refusal}
use Rattle.rack.specs.definitions.Refused.{number_of}
use Rattle.rack.specs.laws.RefusedLaws.{refusal_not_0}
use Rattle.rack.specs.definitions.Tree.{Tree}
use Rattle.rack.specs.definitions.Refusal.{rack_refusal}
use Rattle.register_image.specs.definitions.Image.{Images, Result, gives}
use Rattle.route_bus.specs.declared.Access.{Access}
use Rattle.route_bus.specs.declared.End.{End}
use Rattle.route_bus.specs.declared.End.TheVariants.{Node, Owner, Host, Unclaimed, Clash, Special, Silent}
use Rattle.route_bus.specs.declared.Route.{Route}
use Rattle.route.specs.definitions.Route.{access}
use Rattle.check_search.specs.definitions.Report.{Report}
use Rattle.check_search.specs.definitions.Check.{check}
use Rattle.bench.specs.definitions.Shown.{shown_of, reading, value_of, nothing, last_of, check_rounds}

-- a route that ends elsewhere than at an owner shows its crossings
pub unowned : (crossings : ℕ) (e : End) → ((node region offset : ℕ) → e ≡ Owner node region offset → ⊥) → crossings ≡ shown_of crossings e
unfolding shown_of
unowned crossings (Owner node region offset) ne = absurd (ne node region offset refl)
unowned crossings (Node g) ne = refl
unowned crossings (Host offset) ne = refl
unowned crossings (Unclaimed holder outcome) ne = refl
unowned crossings (Clash holder first second) ne = refl
unowned crossings (Special holder) ne = refl
unowned crossings Silent ne = refl

-- what a route shows, and the images that it leaves
pub route_shown : (t : Tree) (im : Images) (i address : ℕ) {x : Access} {r : Route} {v : Images} {s : ℕ} → x ≡ reading address
    → gives r v ≡ access t im x i → s ≡ shown_of r.crossings r.end
    → (s ≡ shown_of (access t im (reading address) i).answer.crossings (access t im (reading address) i).answer.end)
    × (v ≡ (access t im (reading address) i).after)
route_shown t im i address ex eo es =
    let e = eo ∙ ap (λ (x : Access). access t im x i) ex in
    (es ∙ ap (λ (o : Result Route). shown_of o.answer.crossings o.answer.end) e, ap (λ (o : Result Route). o.after) e)

-- a rack's number is 0 exactly where no refusal is told
pub told_not_0 : {A : Type 0} (x : StdResult A Refusal) → true ≡ is_err x → number_of x ≡ 0 → ⊥
told_not_0 (Err r) told z = refusal_not_0 r z
told_not_0 (Ok v) told z = absurd (true≢false told)

pub none_is_0 : {A : Type 0} (x : StdResult A Refusal) → false ≡ is_err x → number_of x ≡ 0
none_is_0 (Err r) told = absurd (false≢true told)
none_is_0 (Ok v) told = refl

module _ (t : Tree) (im : Images) where
  pub refused_shown : (rounds : ℕ) {n : ℕ} → n ≡ rack_refusal t → (n ≡ 0 → ⊥) → nothing ≡ check_rounds t im rounds
  unfolding check_rounds
  refused_shown rounds e ne = rw (ne_eqb (rack_refusal t) 0 (λ z. ne (e ∙ z)))

  -- one check more, and the last of them
  pub more_shown : (i : ℕ) {s : ℕ} → s ≡ value_of (check t im) → s ≡ last_of t im (i + 1)
  more_shown i e = rw (ne_eqb (i + 1) 0 (λ z. omega arith)) e

  pub last_shown : (rounds : ℕ) {i s : ℕ} → rack_refusal t ≡ 0 → i ≤ rounds → rounds ≤ i → s ≡ last_of t im i → s ≡ check_rounds t im rounds
  unfolding check_rounds
  last_shown rounds {i} ok l m e =
      let q : i ≡ rounds = omega arith in rw (eq-eqb (rack_refusal t) 0 ok) (e ∙ ap (last_of t im) q)

pub value_shown : (t : Tree) (im : Images) {r : Report} {s : ℕ} → r ≡ check t im → s ≡ value_of r → s ≡ value_of (check t im)
value_shown t im er es = es ∙ ap value_of er
