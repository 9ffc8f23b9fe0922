-- What rack_save writes is opened as what it was given, and what rack_open gives is saved as the file of its content.
use Rattle.std.specs.Prelude.{◌≡◌, refl, false, List, [], ℕ, ◌≤◌, ltb, eqb, length, drop, take}
use Rattle.std.proofs.Common.{sym, ap, ◌∙◌, arith, eqb-true, ltb-true, ltb-false}
use Rattle.std.proofs.Math.Seq.{take-append_seam}
use Rattle.std.proofs.lemmas.Bool.{eqb-false}
use Rattle.rack.specs.definitions.Buffer.{over_start}
use Rattle.rack.specs.definitions.Tree.{Tree}
use Rattle.rack.specs.laws.Bools.{tested}
use Rattle.seat.specs.definitions.Grants.{Grants}
use Rattle.register_image.specs.definitions.Image.{Images}
use Rattle.register_image.specs.definitions.Fixed.{lengths_wrong}
use Rattle.file_record.specs.definitions.Load.{Loading, file_in, rack_alone}
use Rattle.file_record.specs.definitions.Start.{start_images}
use Rattle.file_record.specs.laws.LoadLaws.{file_accepted}
use Rattle.file_laws.specs.laws.Alone.{file_rack}
use Rattle.file_laws.specs.laws.Seats.{file_right}
use Rattle.file_save.specs.definitions.Saved.{saved_file}
use Rattle.file_save.specs.laws.Length.{saved_most}
use Rattle.save_laws.specs.definitions.Said.{Savable}
use Rattle.save_laws.specs.laws.ReadBack.{file_alone}
use Rattle.save_laws.specs.laws.Start.{start_saved, start_same}
use Rattle.save_laws.specs.laws.Agreed.{start_accepted}
use Rattle.save_laws.specs.laws.Loaded.{alone_savable}
use Rattle.save_laws.specs.laws.RackBytes.{same_records}
use Rattle.call_table.specs.definitions.Call.{refusal_by}
use Rattle.call_numbers.specs.definitions.Called.{Called}
use Rattle.call_numbers.specs.definitions.Numbers.{eight}
use Rattle.call_file.specs.definitions.Filed.{Filed, filed, rack_save, sizes, rack_open}
use Rattle.demand_calls.specs.laws.Refusing as refusing
use Rattle.demand_calls.specs.laws.Saving as saving
use Rattle.demands.specs.definitions.Demands.{written_file, content_file, Reopened, Resaved}

-- rack bytes and images without a refusal can be saved
pub c_savable : (b : List ℕ) (im : Images) → (rack_alone b).refusal ≡ 0 → refusal_by (rack_alone b).tree (rack_alone b).grants im 0 0 ≡ 0
    → Savable (rack_alone b).tree (rack_alone b).grants im
c_savable b im ok z =
    let a = refusing.accepted (rack_alone b).tree (rack_alone b).grants im 0 0 z in
    alone_savable b im ok a.3 a.1

-- a rack_save that returns 0
module _ (b : List ℕ) (im : Images) (old : List ℕ) (done : (rack_save b im old).code ≡ 0) where
  abbrev t : Tree
  t = (rack_alone b).tree

  abbrev g : Grants
  g = (rack_alone b).grants

  abbrev file : List ℕ
  file = saved_file t g im

  code_is : {r : Filed} → rack_save b im old ≡ r → r.code ≡ 0
  code_is e = ap (λ (r : Filed). r.code) (sym e) ∙ done

  rack_read : (rack_alone b).refusal ≡ 0
  rack_read =
      tested (eqb (rack_alone b).refusal 0) (λ q. eqb-true (rack_alone b).refusal 0 q)
      (λ q. code_is (saving.c_save_by_rack b im old (eqb-false (rack_alone b).refusal 0 q)))

  not_refused : refusal_by t g im 0 0 ≡ 0
  not_refused =
      tested (eqb (refusal_by t g im 0 0) 0) (λ q. eqb-true (refusal_by t g im 0 0) 0 q)
      (λ q. code_is (saving.c_save_refused b im old rack_read (eqb-false (refusal_by t g im 0 0) 0 q)))

  enough : length file ≤ length old
  enough =
      tested (ltb (length old) (length file))
      (λ q.
      let e : ◌≡◌ {A = ℕ} 11 0 = code_is (saving.c_save_short b im old rack_read not_refused (ltb-true (length old) (length file) q)) in
      absurd (omega arith))
      (λ q. ltb-false (length old) (length file) q)

  -- has written the file
  written : written_file (rack_save b im old) ≡ file
  written =
      ap written_file (saving.c_save_answers b im old rack_read not_refused enough)
      ∙ take-append_seam file (drop (length file) old)

  savable : Savable t g im
  savable = c_savable b im rack_read not_refused

  few : length file ≤ 65536
  few = omega (arith, saved_most t g im savable.accepted)

  -- which is opened as what was given
  module _ (lent : Images) (right : lengths_wrong t lent ≡ false) where
    accepted : (file_in file).refusal ≡ 0
    accepted = ap (λ (d : Loading). d.refusal) (file_alone t g im savable few)

    tree_is : (file_in file).tree ≡ t
    tree_is = ap (λ (d : Loading). d.tree) (file_alone t g im savable few)

    grants_is : (file_in file).grants ≡ g
    grants_is = ap (λ (d : Loading). d.grants) (file_alone t g im savable few)

    opens : rack_open file lent
        ≡ record { code = 0; numbers = sizes (file_in file).registers (file_in file).tree; after = start_images file lent }
    opens = saving.c_open_answers file lent accepted (rw tree_is right)

    pub reopened : Reopened b im (written_file (rack_save b im old)) lent
    reopened =
        let r = file_rack file accepted in
        let a = refusing.accepted t g im 0 0 not_refused in
        let e = r.tree ∙ tree_is in
        let f = r.grants ∙ grants_is in
        let w = ap (λ (x : Grants). x.wrong) f ∙ a.3 in
        rw written
        (record {
          accepted = ap (λ (c : Called). c.code) opens;
          images = ap (λ (c : Called). c.after) opens ∙ start_saved t g im savable lent right few;
          bridges = rw (opens, tree_is);
          devices = rw (opens, tree_is);
          rack = rw opens r.accepted;
          tree = rw opens e;
          grants = rw opens f;
          content = rw opens (same_records (take (file_in file).registers file) b r.accepted rack_read w a.3 e f);
        })

-- a rack_open that returns 0
module _ (file : List ℕ) (lent : Images) (done : (rack_open file lent).code ≡ 0) where
  called_is : {r : Called} → rack_open file lent ≡ r → r.code ≡ 0
  called_is e = ap (λ (r : Called). r.code) (sym e) ∙ done

  pub file_read : (file_in file).refusal ≡ 0
  file_read =
      tested (eqb (file_in file).refusal 0) (λ q. eqb-true (file_in file).refusal 0 q)
      (λ q. called_is (saving.c_open_by_file file lent (eqb-false (file_in file).refusal 0 q)))

  pub lent_right : lengths_wrong (file_in file).tree lent ≡ false
  lent_right =
      tested (lengths_wrong (file_in file).tree lent)
      (λ q.
      let e : ◌≡◌ {A = ℕ} 11 0 = called_is (saving.c_open_by_length file lent file_read q) in
      absurd (omega arith))
      (λ q. q)

-- is saved as the file of its content
module _ (file : List ℕ) (lent : Images) (done : (rack_open file lent).code ≡ 0) where
  abbrev ok : (file_in file).refusal ≡ 0
  ok = file_read file lent done

  abbrev front : List ℕ
  front = take (file_in file).registers file

  answered : rack_open file lent
      ≡ record { code = 0; numbers = sizes (file_in file).registers (file_in file).tree; after = start_images file lent }
  answered = saving.c_open_answers file lent ok (lent_right file lent done)

  no_refusal : refusal_by (file_in file).tree (file_in file).grants (start_images file lent) 0 0 ≡ 0
  no_refusal =
      refusing.accepts (file_in file).tree (file_in file).grants (start_images file lent) 0 0 (file_accepted file ok)
      (start_accepted file ok lent (lent_right file lent done)) refl (file_right file ok) refl

  front_saved : (old : List ℕ) → length (content_file file lent) ≤ length old
      → rack_save front (start_images file lent) old ≡ filed 0 (eight (length (content_file file lent)) []) (over_start old (content_file file lent))
  front_saved old l =
      let r = file_rack file ok in
      let same : saved_file (rack_alone front).tree (rack_alone front).grants (start_images file lent) ≡ content_file file lent = rw (r.tree, r.grants) in
      saving.c_save_answers front (start_images file lent) old r.accepted (rw (r.tree, r.grants) no_refusal) (omega (arith, l, ap length same))
      ∙ ap (λ (x : List ℕ). filed 0 (eight (length x) []) (over_start old x)) same

  pub resaved : (old : List ℕ) → Resaved file lent old
  resaved old =
      let r = file_rack file ok in
      record {
        rack = rw answered r.accepted;
        tree = rw answered r.tree;
        grants = rw answered r.grants;
        saved = λ l. rw answered (front_saved old l);
        most = saved_most (file_in file).tree (file_in file).grants (start_images file lent) (file_accepted file ok);
        whatever = λ other also.
            ap (saved_file (file_in file).tree (file_in file).grants)
            (start_same file ok other lent (lent_right file other also) (lent_right file lent done));
      }
