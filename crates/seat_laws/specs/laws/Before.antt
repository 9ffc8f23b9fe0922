-- 02, E1: seat 0 runs every event as before, and a rack without seat records prints what it printed.
use Rattle.std.specs.Prelude.{◌≡◌, leb, eqb, length}
use Rattle.std.proofs.Math.Path.{refl, ap}
use Rattle.std.proofs.Common.{sym, ◌∙◌, true≢false}
use Rattle.std.proofs.Math.Bool.{true, false}
use mathlib.Core.List.{List, [], ◌∷◌, ◌++◌}
use Prim.Native.Nat.{ℕ, zero, suc, ◌+◌, ◌<◌}
use borrow.Author.Tests.{leb-false, eqb-true, eqb-false}
use Rattle.rack.specs.definitions.Tree.{Tree}
use Rattle.rack.specs.laws.Bools.{tested}
use Rattle.seat.specs.definitions.Grants.{Grants, Acting, acting, no_grants, unknown_seat}
use Rattle.seat.specs.laws.Writing.{zero_may, none_unknown}
use Rattle.register_image.specs.definitions.Image.{Images, Result}
use Rattle.claim_agent.specs.declared.Space.TheVariants as space
use Rattle.route_bus.specs.declared.Access.{Access}
use Rattle.route_bus.specs.declared.End.{End}
use Rattle.route_bus.specs.declared.End.TheVariants as end
use Rattle.route.specs.definitions.Route.{configure, access}
use Rattle.file_record.specs.declared.Event.{Event}
use Rattle.file_record.specs.declared.Event.TheVariants.{Write, Read, Memory, Io, Check, Seat}
use Rattle.file_record.specs.definitions.Number.{byte_in}
use Rattle.file_record.specs.definitions.Record.{size_of}
use Rattle.file_record.specs.definitions.Events.{event_in, seat_after}
use Rattle.file_record.specs.definitions.Load.{file_in}
use Rattle.file_laws.specs.laws.Running.{OnEvents, start_on, next_on, event_right}
use Rattle.event_run.specs.declared.Answer.{Answer}
use Rattle.event_run.specs.definitions.Run.{configuration, addressed, reached, ended_at, event_run}
use Rattle.print_file.specs.definitions.Output.{answer_line, lines_of, events_up_to, events_at, output_of}
use Rattle.print_laws.specs.laws.Whole.{start_of, output_accepted}
use Rattle.seat_laws.specs.definitions.Before.{before_at, run_before, lines_before}

module _ (t : Tree) (by : Acting) (zero : by.seat ≡ 0) where
  ended_before_lem : (im : Images) (x : Access) (c : ℕ) (e : End) → ended_at t by im x c e ≡ before_at t im x c e
  unfolding ended_at before_at reached
  ended_before_lem im x c (end.Node g) = tested x.write (λ w. rw (w, zero_may by g x.register zero)) (λ w. rw w)
  ended_before_lem im x c (end.Owner node region offset) = refl
  ended_before_lem im x c (end.Host offset) = refl
  ended_before_lem im x c (end.Unclaimed holder outcome) = refl
  ended_before_lem im x c (end.Clash holder first second) = refl
  ended_before_lem im x c (end.Special holder) = refl
  ended_before_lem im x c end.Silent = refl

  -- 'seat 0, which may write all'
  pub zero_before : (im : Images) (e : Event) → event_run t by im e ≡ run_before t im e
  unfolding event_run run_before
  zero_before im (Write bus devfn register enables put) =
      let x = configuration true bus devfn register enables put in
      let o = configure t im x in
      ended_before_lem o.after x o.answer.crossings o.answer.end
  zero_before im (Read bus devfn register) =
      let x = configuration false bus devfn register 0 0 in
      let o = configure t im x in
      ended_before_lem o.after x o.answer.crossings o.answer.end
  zero_before im (Memory i direction a) =
      let x = addressed space.Memory direction a in
      let o = access t im x i in
      ended_before_lem o.after x o.answer.crossings o.answer.end
  zero_before im (Io i direction a) =
      let x = addressed space.Io direction a in
      let o = access t im x i in
      ended_before_lem o.after x o.answer.crossings o.answer.end
  zero_before im Check = refl
  zero_before im (Seat seat) = refl

-- events of which none names a seat other than 0
unfoldable pub NamesNone : List Event → Type 0
NamesNone [] = Unit {0}
NamesNone (e ∷ es) = (seat_after 0 e ≡ 0) × NamesNone es

module _ (t : Tree) (g : Grants) where
  pub lines_before_lem : (es : List Event) (n : ℕ) (im : Images) → NamesNone es → lines_of t (acting g 0) n im es ≡ lines_before t n im es
  unfolding lines_of lines_before NamesNone
  lines_before_lem [] n im none = refl
  lines_before_lem (e ∷ es) n im none =
      let same = zero_before t (acting g 0) refl im e in
      rw none.0
      (ap (λ (r : Result Answer). answer_line n r.answer ++ lines_of t (acting g 0) (n + 1) r.after es) same
      ∙ ap (λ (l : List ℕ). answer_line n (run_before t im e).answer ++ l) (lines_before_lem es (n + 1) (run_before t im e).after none.1))

-- a file whose rack has no seat record
module _ (b : List ℕ) (ok : (file_in b).refusal ≡ 0) (no-seats : (file_in b).grants ≡ no_grants) where
  seat_0 : (o : ℕ) → OnEvents b ok o → o < length b → seat_after 0 (event_in b o) ≡ 0
  seat_0 o p i =
      let n = seat_after 0 (event_in b o) in
      tested (eqb n 0) (λ q. eqb-true n 0 q)
      (λ q.
      let known : unknown_seat no_grants n ≡ false = rw no-seats at (event_right b ok o p i).1 in
      absurd (true≢false (sym (none_unknown n (eqb-false n 0 q)) ∙ known)))

  names_none : (left o : ℕ) → OnEvents b ok o → NamesNone (events_up_to left b o)
  unfolding events_up_to NamesNone
  names_none zero o p = tt
  names_none (suc left) o p =
      tested (leb (length b) o) (λ q. rw q tt)
      (λ q.
      let i = leb-false (length b) o q in
      rw q (seat_0 o p i, names_none left (o + size_of (byte_in b o)) (next_on b ok o p i)))

  -- a file whose rack has no seat record prints what it printed before there were any
  pub output_before : output_of b ≡ lines_before (file_in b).tree 1 (start_of b) (events_at b (file_in b).offset)
  output_before =
      output_accepted b ok
      ∙ lines_before_lem (file_in b).tree (file_in b).grants (events_at b (file_in b).offset) 1 (start_of b)
      (names_none (length b) (file_in b).offset (start_on b ok))
