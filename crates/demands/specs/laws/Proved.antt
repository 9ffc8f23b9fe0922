-- The demands are met.
use Rattle.std.specs.Prelude.{◌≡◌, refl, Bool, false, List, Ok, Err, ℕ}
use Rattle.std.proofs.Common.{ap, arith}
use Rattle.rack.specs.declared.Rack.{Rack}
use Rattle.rack.specs.definitions.Tree.{Tree}
use Rattle.rack.specs.definitions.Grow.{tree}
use Rattle.rack_laws.specs.laws.Refusals as refusals
use Rattle.rack_laws.specs.laws.Stored.{accepted_stored}
use Rattle.rack.specs.laws.Search.{none_all, found_at}
use Rattle.seat.specs.definitions.Grants.{Grants, acting, named_missing, grants}
use Rattle.seat_laws.specs.laws.Files.{run_kept, run_accepted}
use Rattle.seat_laws.specs.laws.Before.{zero_before, output_before}
use Rattle.seat_laws.specs.laws.NamedPair as pair
use Rattle.register_image.specs.definitions.Image.{Images, gives}
use Rattle.bus_reset.specs.definitions.Agreement.{image_refusal}
use Rattle.register_laws.specs.laws.Accepted.{agreed}
use Rattle.register_laws.specs.laws.FalseImages as images
use Rattle.claim_laws.specs.laws.Held.{asked, held_claims}
use Rattle.claim_laws.specs.laws.ResetBit.{reset_claims}
use Rattle.claim_agent.specs.declared.Space.{Space}
use Rattle.check_search.specs.definitions.Report.{Report, Pass, fault}
use Rattle.check_search.specs.definitions.Check.{check}
use Rattle.held_laws.specs.laws.OtherCheck.{check_others}
use Rattle.file_record.specs.definitions.Load.{Loading, file_in, rack_alone}
use Rattle.file_record.specs.definitions.Start.{start_images}
use Rattle.print_file.specs.definitions.Output.{first_at}
use Rattle.print_laws.specs.laws.Whole.{output_refused}
use Rattle.file_record.specs.laws.Turns.{read_over, read_empty}
use Rattle.file_laws.specs.laws.Refused as file
use Rattle.file_laws.specs.laws.Seats as seats
use Rattle.file_laws.specs.laws.Named as named
use Rattle.file_laws.specs.laws.Alone.{file_rack}
use Rattle.file_save.specs.definitions.Saved.{saved_file}
use Rattle.file_save.specs.laws.Length.{saved_most}
use Rattle.save_laws.specs.definitions.Said.{Savable}
use Rattle.save_laws.specs.definitions.Content.{Sound}
use Rattle.save_laws.specs.laws.ReadBack.{file_alone}
use Rattle.save_laws.specs.laws.Start.{start_saved}
use Rattle.save_laws.specs.laws.Agreed.{start_accepted}
use Rattle.save_laws.specs.laws.Decoded.{rack_savable}
use Rattle.save_laws.specs.definitions.RackBytes.{SameRecords}
use Rattle.save_laws.specs.laws.RackBytes.{records_tree, records_grants, same_records}
use Rattle.save_laws.specs.laws.OneForm.{one_form}
use Rattle.save_laws.specs.laws.Content.{content_file_lem, file_content}
use Rattle.save_laws.specs.laws.Listed.{seats_listed, nodes_listed}
use Rattle.save_laws.specs.laws.Output.{output_back, none_registers, start_reset, output_reset}
use Rattle.event_run.specs.declared.Answer.TheVariants.{Checked}
use Rattle.event_run.specs.definitions.Run.{event_run}
use Rattle.demand_passed.specs.definitions.OneClaimant.{OneClaimant}
use Rattle.demand_passed.specs.definitions.FirstFault.{FirstFault}
use Rattle.demand_passed.specs.laws.Clear as clear
use Rattle.demand_passed.specs.laws.Clear.{one_other, other_one, other_faulted}
use Rattle.arbiter.specs.laws.Answers.{is_refused, is_answered}
use Rattle.call_table.specs.definitions.Call.{refusal_by, check_in}
use Rattle.muzgante.specs.definitions.Called.{rack_check}
use Rattle.demand_calls.specs.laws.Refusing as refusing
use Rattle.demand_calls.specs.laws.Sizing.{size_accepted}
use Rattle.demand_calls.specs.laws.Silent.{event_silent}
use Rattle.demand_calls.specs.laws.Special.{event_special, event_arrives}
use Rattle.demand_calls.specs.laws.Seats.{event_denied, event_stores, seat_keeps}
use Rattle.demand_calls.specs.laws.CSeats.{c_run_denied, c_run_stores, c_seat_keeps}
use Rattle.demand_calls.specs.laws.Resets.{event_agrees, write_agrees, c_run_agrees, c_reset_agrees, event_resets, write_resets, c_run_resets}
use Rattle.demand_calls.specs.laws.CGoing.{handed}
use Rattle.demand_calls.specs.laws.Checking as checking
use Rattle.demand_calls.specs.laws.Saving as saving
use Rattle.demand_calls.specs.laws.Decoded as decoded
use Rattle.demand_calls.specs.laws.CRefusing as c-refusing
use Rattle.demand_calls.specs.laws.CChecking as c-checking
use Rattle.demand_calls.specs.laws.CGoing as c-going
use Rattle.demand_calls.specs.laws.CLater as c-later
use Rattle.demand_calls.specs.laws.CSpecial as c_special
use Rattle.demand_calls.specs.definitions.CCalls as c
use Rattle.demands.specs.laws.Reopened.{c_savable, reopened, resaved}
use Rattle.demands.specs.definitions.Demands as demands
use Rattle.demands.specs.definitions.Demands.{Demand1, Demand3, SeatsKeep, Agrees, BusResets, AsBefore, Saves, Reopens}

bytes : (whole : Bool) (b : List ℕ) → demands.Bytes whole b
bytes whole b =
    record {
      overlong = λ l.
          let e = read_over whole b l in
          (ap (λ (d : Loading). d.refusal) e, ap (λ (d : Loading). d.offset) e);
      empty = λ z.
          let e = read_empty whole b z in
          (ap (λ (d : Loading). d.refusal) e, ap (λ (d : Loading). d.offset) e);
      refused = λ l s z. file.given whole b l s z;
      refuses = λ l s n o f. file.gives whole b l s n o f;
      accepts = λ l s f. file.accepts whole b l s f;
      accepted = λ z. file.faultless whole b z;
    }

c_grants : (mask requests high low : ℕ) → demands.CGrants mask requests high low
c_grants mask requests high low =
    record {
      refused = λ e. rw (is_refused mask requests (record { high = high; low = low }) e) (refl, refl);
      answers = λ e.
          rw (is_answered mask requests (record { high = high; low = low }) e) (refl, refl);
    }

pub demand1 : Demand1
demand1 =
    record {
      bytes = bytes;
      nodes = λ t. record { refused = refusals.given t; refuses = λ f. refusals.gives t f };
      seats = λ b.
          record {
            wrong = λ z k i f. seats.is_noted b false z k i f;
            right = λ z f. seats.none_faulty b false z f;
            file = seats.file_right b;
          };
      pairs = λ rack.
          record {
            wrong = λ k h e. found_at (named_missing rack) 1440 k h e;
            right = λ h. none_all (named_missing rack) 1440 h;
            named = pair.named_pair rack;
            names = pair.pair_named rack;
            unknown = pair.unknown_pair rack;
            without = pair.pair_unknown rack;
          };
      unknown_seats = λ whole b.
          record {
            named = named.named_by b;
            names = named.names b;
            event_unknown_lem = named.event_unknown_lem whole b;
            unknown_event = named.unknown_event whole b;
            read_named = named.read_named whole b;
            read_names = named.read_names whole b;
            unknown = named.read_unknown whole b;
            without = named.unknown_read whole b;
          };
      images = λ t im.
          record {
            refused_11 = images.refused_11 t im;
            refuses_11 = images.refuses_11 t im;
            refused_12 = images.refused_12 t im;
            refuses_12 = images.refuses_12 t im;
            refused_18 = images.refused_18 t im;
            refuses_18 = images.refuses_18 t im;
            accepted = images.accepted t im;
            accepts = images.accepts t im;
            length_differs = images.length_differs t im;
            differs_length = images.differs_length t im;
          };
      order = λ t g im field seat.
          record {
            by_rack = refusing.by_rack t g im field seat;
            by_image = refusing.by_image t g im field seat;
            by_field = refusing.by_field t g im field seat;
            by_grants = refusing.by_grants t g im field seat;
            by_seat = refusing.by_seat t g im field seat;
            accepted = refusing.accepted t g im field seat;
          };
      reads = λ rack im i register.
          record { refused = refusing.read_refused (tree rack) (grants rack) im i register; answers = refusing.read_accepted (tree rack) (grants rack) im i register };
      writes = λ rack im i register enables put.
          record {
            refused = refusing.write_untouched (tree rack) (grants rack) im i register enables put;
            answers = refusing.write_stores (tree rack) (grants rack) im i register enables put;
          };
      views = λ rack im i. record { refused = refusing.view_empty (tree rack) (grants rack) im i; answers = refusing.view_shows (tree rack) (grants rack) im i };
      sizes = λ rack im i r. record { refused = refusing.size_refused (tree rack) (grants rack) im i r; answers = size_accepted rack im i r };
      windows = λ rack im i k.
          record { refused = refusing.ends_refused (tree rack) (grants rack) im i k; answers = refusing.ends_accepted (tree rack) (grants rack) im i k };
      runs = λ rack im seat e.
          record {
            refused = refusing.event_untouched (tree rack) (acting (grants rack) seat) im e;
            answers = refusing.event_runs (tree rack) (acting (grants rack) seat) im e;
          };
      checks = λ rack im.
          record {
            refused = checking.check_refused (tree rack) (grants rack) im;
            answers = checking.check_accepted (tree rack) (grants rack) im;
          };
      c_runs = c-refusing.run_refuses;
      c_checks = c-refusing.check_refuses;
      c_windows = c-refusing.window_refuses;
      c_reset = λ b im.
          record {
            by_rack = c-refusing.reset_by_rack b im;
            by_length = c-refusing.reset_by_length b im;
            by_grants = c-refusing.reset_by_grants b im;
            answers = c-refusing.reset_accepts b im;
          };
      saves = λ rack im old.
          record {
            refused = saving.save_refused (tree rack) (grants rack) im old;
            short = saving.save_short (tree rack) (grants rack) im old;
            answers = saving.save_answers (tree rack) (grants rack) im old;
            most = saving.save_most (tree rack) (grants rack) im;
          };
      c_saves = λ b im old.
          record {
            by_rack = saving.c_save_by_rack b im old;
            refused = saving.c_save_refused b im old;
            short = saving.c_save_short b im old;
            answers = saving.c_save_answers b im old;
            most = saving.save_most (rack_alone b).tree (rack_alone b).grants im;
          };
      c_opens = λ b im.
          record {
            by_file = saving.c_open_by_file b im;
            by_length = saving.c_open_by_length b im;
            answers = saving.c_open_answers b im;
          };
      prints = output_refused;
      grants = λ mask requests s. record { refused = is_refused mask requests s; answers = is_answered mask requests s };
      c_grants = c_grants;
    }

-- a check on some images
checked_at : (t : Tree) (im : Images) → demands.CheckedAt t im (gives (Checked (check t im)) im)
checked_at t im =
    record {
      keeps = refl;
      passed = λ e. clear.passed t im (is_pass (check t im) e);
      passes = λ o. ap Checked (clear.passes t im o);
      faulted = λ ne. shows (check t im) refl ne;
    }
  where
    is_pass : (r : Report) → Checked r ≡ Checked Pass → r ≡ Pass
    is_pass r e = cc

    shows : (r : Report) → check t im ≡ r → (OneClaimant t im → ⊥)
        → (bus : ℕ) × (space : Space) × (a : ℕ) × (driver : ℕ) × (x : ℕ) × (y : ℕ)
        × (Checked (check t im) ≡ Checked (fault bus space a driver x y)) × FirstFault t im bus space a driver x y
    shows (Ok _) e ne = absurd (ne (clear.passed t im e))
    shows (Err f) e ne =
        (f.holder, f.space, f.value, f.driver, f.first, f.second, ap Checked e, clear.faulted t im f.holder f.space f.value f.driver f.first f.second e)

check_events : demands.CheckEvents
unfolding event_run
check_events =
    record {
      events = λ rack im. checking.event_is_check (tree rack) (grants rack) im;
      c_events = c-going.c_run_checks;
      files = λ b ok n e. rw e (checked_at (file_in b).tree (demands.after b n).before);
    }

passed : (rack : Rack) (im : Images) → check_in (tree rack) (grants rack) im ≡ Ok (Checked Pass) → demands.Passed3 rack im
passed rack im pass =
    record {
      goes = λ im' same seat e f z. decoded.rack_goes rack im pass im' same seat e f z;
      no_clash = λ im' same seat e f n. decoded.rack_no_clash rack im pass im' same seat e f n;
      later = λ acts none. decoded.rack_later rack im pass acts none;
    }

c_passed : (b : List ℕ) (im : Images) → c.number (rack_check b im) ≡ 8 → demands.CPassed3 b im
c_passed b im pass =
    record {
      goes = λ im' same seat event bytes ok. c-going.c_run_goes b seat event im im' pass same bytes ok;
      no_clash = λ im' same seat event bytes n. c-going.c_run_no_clash b seat event im im' pass same bytes n;
      later = λ acts none. c-later.c_later_same b im pass acts none;
    }

pub demand3 : Demand3
demand3 =
    record {
      checked = λ rack im.
          record {
            passed = checking.check_passed (tree rack) (grants rack) im;
            passes = checking.check_passes (tree rack) (grants rack) im;
            faulted = checking.check_faulted (tree rack) (grants rack) im;
          };
      check_events = check_events;
      passed = passed;
      crossed = decoded.rack_crossings;
      silent = λ rack im seat. event_silent (tree rack) (acting (grants rack) seat) (accepted_stored rack) im;
      special = λ rack im seat e.
          record {
            ends = λ gs holder z c. event_arrives (tree rack) (acting (grants rack) seat) im (accepted_stored rack) e gs holder z c;
            only = event_special (tree rack) (acting (grants rack) seat) im e;
          };
      denied = λ rack im seat.
          record {
            only = event_denied (tree rack) (acting (grants rack) seat) im;
            would = event_stores (tree rack) (acting (grants rack) seat) im;
          };
      c_checked = λ b im.
          record {
            passed = c-checking.c_check_passed b im;
            passes = c-checking.c_check_passes b im;
            faulted = c-checking.c_check_faulted b im;
            shows = c-checking.c_check_shows b im;
          };
      c_passed = c_passed;
      c_silent = c-going.c_run_silent;
      c_special = λ b seat event im.
          record { ends = c_special.c_run_arrives b seat event im; only = c_special.c_run_special b seat event im };
      c_denied = λ b seat event im. record { only = c_run_denied b seat event im; would = c_run_stores b seat event im };
      c_crossed = c-going.c_run_crossings;
    }

pub seats_keep : SeatsKeep
seats_keep =
    record {
      events = λ rack seat other es im. seat_keeps (tree rack) (accepted_stored rack) (grants rack) seat other es im;
      files = run_kept;
      c_calls = c_seat_keeps;
    }

pub agrees : Agrees
agrees =
    record {
      runs = λ rack im seat. event_agrees (tree rack) (acting (grants rack) seat) (accepted_stored rack) im;
      writes = λ rack im. write_agrees (tree rack) (grants rack) (accepted_stored rack) im;
      c_runs = c_run_agrees;
      c_resets = c_reset_agrees;
      c_opens = λ b im ok right.
          rw (saving.c_open_answers b im ok right) (start_accepted b ok im right);
      files = λ b ok n im right. run_accepted b ok n (first_at (file_in b).offset) (start_images b im) (start_accepted b ok im right);
    }

pub bus_resets : BusResets
bus_resets =
    record {
      writes = λ rack im. write_resets (tree rack) (grants rack) (accepted_stored rack) im;
      runs = λ rack im seat. event_resets (tree rack) (acting (grants rack) seat) (accepted_stored rack) im;
      c_runs = λ b seat event im ok. (c_run_resets b seat event im ok, handed b seat event im ok);
      claims_nothing = λ t im e g h ne held s bus a n. held_claims t im (agreed t im e) g h held ne s bus a (asked s a n);
      checks = λ t im ok e. check_others t im ok (agreed t im e);
      passed = λ t im ok e p. one_other t im ok e (clear.passed t im p);
      passes = λ t im ok e o. clear.passes t im (other_one t im ok e o);
      faulted = other_faulted;
      keeps_claiming = reset_claims;
    }

pub as_before : AsBefore
as_before =
    record { starts = λ o. refl; seat_0 = λ t g im e. zero_before t (acting g 0) refl im e; prints = λ b ok none. output_before b ok none }

-- what can be saved has one file
one_file : (t : Tree) (g : Grants) (im : Images) → Savable t g im → demands.OneFile t g im
one_file t g im s =
    let most = saved_most t g im s.accepted in
    let e = file_alone t g im s (omega (arith, most)) in
    record {
      accepted = ap (λ (d : Loading). d.refusal) e;
      no_events = ap (λ (d : Loading). d.offset) e;
      most = most;
      tree = ap (λ (d : Loading). d.tree) e;
      grants = ap (λ (d : Loading). d.grants) e;
      registers = λ old right. start_saved t g im s old right (omega (arith, most));
      seats = seats_listed t g im s;
      nodes = nodes_listed t g im s;
      prints = output_back t g im s;
    }

-- a decoded rack without a refusal
sound : (rack : Rack) (im : Images) → refusal_by (tree rack) (grants rack) im 0 0 ≡ 0 → Sound rack × (image_refusal (tree rack) im ≡ 0)
sound rack im z =
    let a = refusing.accepted (tree rack) (grants rack) im 0 0 z in
    (record { nodes = a.0; seats = a.3 }, a.1)

-- and rack bytes
module _ (b c : List ℕ) (ok : (rack_alone b).refusal ≡ 0) (fine : (rack_alone c).refusal ≡ 0) (im jm : Images)
    (z : refusal_by (rack_alone b).tree (rack_alone b).grants im 0 0 ≡ 0)
    (y : refusal_by (rack_alone c).tree (rack_alone c).grants jm 0 0 ≡ 0) where
  read_one : saved_file (rack_alone b).tree (rack_alone b).grants im ≡ saved_file (rack_alone c).tree (rack_alone c).grants jm
      → ((rack_alone b).tree ≡ (rack_alone c).tree) × ((rack_alone b).grants ≡ (rack_alone c).grants) × (im ≡ jm)
  read_one =
      one_form (rack_alone b).tree (rack_alone c).tree (rack_alone b).grants (rack_alone c).grants im jm (c_savable b im ok z)
      (c_savable c jm fine y)

  right : (rack_alone b).grants.wrong ≡ false
  right = (refusing.accepted (rack_alone b).tree (rack_alone b).grants im 0 0 z).3

  fair : (rack_alone c).grants.wrong ≡ false
  fair = (refusing.accepted (rack_alone c).tree (rack_alone c).grants jm 0 0 y).3

  records_file : SameRecords b c → im ≡ jm
      → saved_file (rack_alone b).tree (rack_alone b).grants im ≡ saved_file (rack_alone c).tree (rack_alone c).grants jm
  records_file s i = rw (records_tree b c ok fine right fair s, records_grants b c ok fine right fair s, i)

  file_records : saved_file (rack_alone b).tree (rack_alone b).grants im ≡ saved_file (rack_alone c).tree (rack_alone c).grants jm
      → SameRecords b c × (im ≡ jm)
  file_records e = let o = read_one e in (same_records b c ok fine right fair o.0 o.1, o.2)

pub saves : Saves
saves =
    record {
      files = λ rack im z.
          let s = sound rack im z in
          one_file (tree rack) (grants rack) im (rack_savable rack s.0 im s.1);
      c_files = λ b im ok z. one_file (rack_alone b).tree (rack_alone b).grants im (c_savable b im ok z);
      one_form = λ a b im jm z y.
          let s = sound a im z in
          let r = sound b jm y in
          record {
            same_file = content_file_lem a b s.0 r.0 im jm;
            same_content = file_content a b s.0 r.0 im jm s.1 r.1;
          };
      c_one_form = λ b c im jm ok fine z y.
          record {
            same_file = records_file b c ok fine im jm z y;
            same_content = file_records b c ok fine im jm z y;
            read_file = λ t g i. rw (t, g, i);
            read_content = read_one b c ok fine im jm z y;
          };
      from_reset = λ b ok none. let e = none_registers b ok none in (start_reset b e, output_reset b e ok);
    }

pub reopens : Reopens
reopens =
    record {
      alone = λ file ok. let r = file_rack file ok in (r.accepted, r.tree, r.grants);
      opened = reopened;
      saved = resaved;
    }
