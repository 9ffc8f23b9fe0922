-- The grants of a decoded rack are its named pairs, and 15 is given exactly where none is of that seat.
use Rattle.std.specs.Prelude.{◌≡◌, true, ℕ, get_or}
use Rattle.std.proofs.Common.{sym, ap, ◌∙◌, true≢false, le-leb, lt-ltb}
use Rattle.std.proofs.lemmas.Bool.{false≢true}
use Rattle.rack.specs.declared.Grant.{Grant}
use Rattle.rack.specs.declared.Rack.{Rack}
use Rattle.rack.specs.laws.Bools.{tested}
use Rattle.seat.specs.definitions.Grants.{no_grant, unknown_seat, is_pair, slot, own_grant, grants}
use Rattle.seat.specs.laws.Stored.{pair_is}
use Rattle.file_laws.specs.laws.Named.{unknown_unnamed, unnamed_unknown}
use Rattle.seat_laws.specs.definitions.NamedPair.{NamedPair, WithoutPair}

own_said : (g : Grant) → (own_grant g).named ≡ true → g ≡ record { named = true; mask = (own_grant g).mask }
own_said g e = tested g.named (λ q. rw q) (λ q. absurd (false≢true (rw q at e)))

module _ (rack : Rack) where
  pub pair_named : (seat node mask : ℕ) → NamedPair rack seat node mask → (grants rack).grant seat node ≡ record { named = true; mask = mask }
  pair_named seat node mask p =
      rw (le-leb 1 seat p.first, le-leb seat 15 p.last, lt-ltb node 96 p.below, p.says)

  pub named_pair : (seat node : ℕ) → ((grants rack).grant seat node).named ≡ true
      → NamedPair rack seat node ((grants rack).grant seat node).mask
  named_pair seat node e =
      tested (is_pair seat node)
      (λ q.
      let i = pair_is seat node q in
      record {
        first = i.0;
        last = i.1;
        below = i.2;
        says = rw q (own_said (get_or rack.grants (slot seat node) no_grant) (rw q at e));
      })
      (λ q. absurd (false≢true (rw q at e)))

  pub unknown_pair : (seat : ℕ) → unknown_seat (grants rack) seat ≡ true → WithoutPair rack seat
  unknown_pair seat e =
      let u = unknown_unnamed (grants rack) seat e in
      record {
        other = u.0;
        none = λ node mask p. true≢false (sym (ap (λ (g : Grant). g.named) (pair_named seat node mask p)) ∙ u.1 node p.below);
      }

  pub pair_unknown : (seat : ℕ) → WithoutPair rack seat → unknown_seat (grants rack) seat ≡ true
  pair_unknown seat w =
      unnamed_unknown (grants rack) seat w.other
      (λ node l.
      tested ((grants rack).grant seat node).named (λ q. absurd (w.none node _ (named_pair seat node q))) (λ q. q))
