-- What a configuration write changes, by how it ends; and what an access of a held device does.
use Rattle.std.proofs.Math.Path.{◌≡◌, refl, ap}
use Rattle.std.proofs.Common.{sym, ◌∙◌, arith}
use Rattle.std.specs.Prelude.{true, false, ℕ, ◌<◌, length}
use Rattle.std.proofs.lemmas.Bool.{false≢true}
use mathlib.Core.List.{List}
use Rattle.rack.specs.definitions.Tree.{Tree, host}
use Rattle.rack.specs.definitions.Stored.{Stored}
use Rattle.rack.specs.definitions.Refusal.{rack_refusal}
use Rattle.rack.specs.laws.Bools.{tested}
use Rattle.seat.specs.definitions.Grants.{Acting, may_write}
use Rattle.register_image.specs.definitions.Image.{Images, Result}
use Rattle.bus_reset.specs.definitions.Held.{is_held}
use Rattle.bus_reset.specs.definitions.Agreement.{image_refusal}
use Rattle.bus_reset.specs.definitions.Store.{store_node}
use Rattle.register_laws.specs.laws.Accepted.{accepted, agreed}
use Rattle.claim_laws.specs.definitions.Same.{SameButStatus}
use Rattle.claim_laws.specs.laws.Held.{held_master}
use Rattle.route_bus.specs.declared.Access.{Access}
use Rattle.route_bus.specs.declared.End.{End}
use Rattle.route_bus.specs.declared.End.TheVariants as end
use Rattle.route_bus.specs.declared.Route.{Route}
use Rattle.route_bus.specs.definitions.Look.{found}
use Rattle.route_bus.specs.definitions.Cross.{is_configuration}
use Rattle.route.specs.definitions.Route.{configure, access}
use Rattle.route_laws.specs.definitions.Ends.{ends_at_node}
use Rattle.route_laws.specs.definitions.Path.{ToType0}
use Rattle.route_laws.specs.laws.Changes.{configure_same, access_same}
use Rattle.route_laws.specs.laws.Arrives.{node_fails, access_none}
use Rattle.route_laws.specs.laws.Silent.{access_silent}
use Rattle.route_laws.specs.laws.Type0.{arrived, only_node}
use Rattle.event_run.specs.declared.Ending.TheVariants.{Silent}
use Rattle.event_run.specs.definitions.Answers.{answer_number}
use Rattle.event_run.specs.definitions.Run.{answers, register_of, reached, ended_at, ended, configured, accessed}
use Rattle.event_laws.specs.definitions.Stores.{Stores}
use Rattle.event_laws.specs.laws.Stores.{stores}

module _ (t : Tree) (by : Acting) where
  -- an access that is stored reached a node
  ended_node : (im : Images) (x : Access) (c : ℕ) (e : End) → answer_number (ended_at t by im x c e).answer ≡ 2 → ends_at_node e ≡ true
  unfolding ended_at
  ended_node im x c (end.Node g) q = refl
  ended_node im x c (end.Owner g r o) q = absurd (omega (arith, q))
  ended_node im x c (end.Host o) q = absurd (omega (arith, q))
  ended_node im x c (end.Unclaimed k o) q = absurd (omega (arith, q))
  ended_node im x c (end.Clash k y z) q = absurd (omega (arith, q))
  ended_node im x c (end.Special k) q = absurd (omega (arith, q))
  ended_node im x c end.Silent q = absurd (omega (arith, q))

  -- there it is the register write
  node_stored : (im : Images) (x : Access) (c g : ℕ) → answer_number (reached t by im x c g).answer ≡ 2
      → (reached t by im x c g).after ≡ store_node t im g x.register x.enables x.«data»
  unfolding reached register_of
  node_stored im x c g q =
      tested x.write
      (λ w. tested (may_write by g x.register) (λ m. rw (w, m)) (λ m. let z : ◌≡◌ {A = ℕ} 10 2 = rw (w, m) at q in absurd (omega arith)))
      (λ w. let z : ◌≡◌ {A = ℕ} 1 2 = rw w at q in absurd (omega arith))

  -- every other end leaves the images as the route left them
  node_otherwise : (im : Images) (x : Access) (c g : ℕ) → (answer_number (reached t by im x c g).answer ≡ 2 → ⊥) → (reached t by im x c g).after ≡ im
  unfolding reached register_of
  node_otherwise im x c g ne =
      tested x.write (λ w. tested (may_write by g x.register) (λ m. absurd (ne (rw (w, m)))) (λ m. rw (w, m))) (λ w. rw w)

  ended_otherwise : (im : Images) (x : Access) (c : ℕ) (e : End) → (answer_number (ended_at t by im x c e).answer ≡ 2 → ⊥)
      → (ended_at t by im x c e).after ≡ im
  unfolding ended_at
  ended_otherwise im x c (end.Node g) ne = node_otherwise im x c g ne
  ended_otherwise im x c (end.Owner g r o) ne = refl
  ended_otherwise im x c (end.Host o) ne = refl
  ended_otherwise im x c (end.Unclaimed k o) ne = refl
  ended_otherwise im x c (end.Clash k y z) ne = refl
  ended_otherwise im x c (end.Special k) ne = refl
  ended_otherwise im x c end.Silent ne = refl

  module _ (ok : rack_refusal t ≡ 0) (st : Stored t) (im : Images) (sound : image_refusal t im ≡ 0) where
    -- a configuration access that ends `stored` came to a Type 0 and found a node there; it is the register write of that node, and
    -- leaves what that leaves
    pub configured_stored : (x : Access) → answer_number (configured t by im x).answer ≡ 2
        → (gs : List ℕ) × (holder : ℕ) × ToType0 t im x gs holder × (found t im holder x.devfn ≡ 255 → ⊥)
        × Stores t im (found t im holder x.devfn) x.register x.enables x.«data» (configured t by im x).after
    unfolding ended_at
    configured_stored x q =
        let o = configure t im x in
        let s = only_node t im x (ended_node o.after x o.answer.crossings o.answer.end q) in
        let g = found t im s.1 x.devfn in
        (s.0, s.1, s.2, s.3, rw (after x s.0 g s.4 q) (stores t ok st im sound g x.register x.enables x.«data»))
      where
        after : (x : Access) (gs : List ℕ) (g : ℕ) → configure t im x ≡ arrived im gs (end.Node g)
            → answer_number (configured t by im x).answer ≡ 2
            → (configured t by im x).after ≡ store_node t im g x.register x.enables x.«data»
        after x gs g e q =
            ap (λ (r : Result Route). (ended t by x r).after) e
            ∙ node_stored im x (length gs) g (sym (ap (λ (r : Result Route). answer_number (ended t by x r).answer) e) ∙ q)

    -- one that ends otherwise changes status bits alone
    pub configured_otherwise : (x : Access) → (answer_number (configured t by im x).answer ≡ 2 → ⊥)
        → SameButStatus t im (configured t by im x).after
    configured_otherwise x ne =
        let o = configure t im x in
        rw (ended_otherwise o.after x o.answer.crossings o.answer.end ne) (configure_same t st x im (accepted t im sound).0)

    -- 02, E5: 'A held initiator's access is `silent`', and changes nothing
    pub held_silent : (x : Access) (i : ℕ) → i < t.count → (i ≡ host → ⊥) → is_held t im i ≡ true → accessed t by im x i ≡ answers 0 Silent im
    unfolding ended_at
    held_silent x i h ne held =
        ap (ended t by x) (access_silent t im x i ne (held_master t im (agreed t im sound) i h held))

    -- nor does a memory or I/O access change anything else
    pub accessed_same : (x : Access) (i : ℕ) → is_configuration x.space ≡ false → SameButStatus t im (accessed t by im x i).after
    accessed_same x i address =
        let o = access t im x i in
        rw (ended_otherwise o.after x o.answer.crossings o.answer.end
        (λ q. false≢true (sym (access_none ends_at_node node_fails refl t x address im i) ∙ ended_node o.after x o.answer.crossings o.answer.end q)))
        (access_same t st x im (accepted t im sound).0 i)

  -- only a write ends `stored`
  node_write : (im : Images) (x : Access) (c : ℕ) (e : End) → answer_number (ended_at t by im x c e).answer ≡ 2 → x.write ≡ true
  unfolding ended_at reached register_of
  node_write im x c (end.Node g) q = tested x.write (λ w. w) (λ w. let z : ◌≡◌ {A = ℕ} 1 2 = rw w at q in absurd (omega arith))
  node_write im x c (end.Owner g r o) q = absurd (omega (arith, q))
  node_write im x c (end.Host o) q = absurd (omega (arith, q))
  node_write im x c (end.Unclaimed k o) q = absurd (omega (arith, q))
  node_write im x c (end.Clash k y z) q = absurd (omega (arith, q))
  node_write im x c (end.Special k) q = absurd (omega (arith, q))
  node_write im x c end.Silent q = absurd (omega (arith, q))

  pub read_not_stored : (im : Images) (x : Access) → x.write ≡ false → answer_number (configured t by im x).answer ≡ 2 → ⊥
  read_not_stored im x w q =
      let o = configure t im x in false≢true (sym w ∙ node_write o.after x o.answer.crossings o.answer.end q)

  pub access_not_stored : (im : Images) (x : Access) (i : ℕ) → is_configuration x.space ≡ false
      → answer_number (accessed t by im x i).answer ≡ 2 → ⊥
  access_not_stored im x i address q =
      let o = access t im x i in
      false≢true (sym (access_none ends_at_node node_fails refl t x address im i) ∙ ended_node o.after x o.answer.crossings o.answer.end q)
