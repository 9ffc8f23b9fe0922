-- What the calls over rack files say once their bytes are read.
use mathlib.Core.Path.{◌≡◌, sym, ap, ◌∙◌}
use mathlib.Core.Bool.{Bool, true, false}
use mathlib.Core.List.{List, [], ◌∷◌}
use Prim.Native.Nat.{ℕ, ◌-◌, ◌≤◌}
use native.Mathlib.Omega.{arith}
use lib.ListN.{length}
use Rattle.rack.specs.declared.Node.{Node}
use Rattle.rack.specs.definitions.Tree.{Tree, bridges_below}
use Rattle.rack.specs.definitions.Table.{tree_of}
use Rattle.rack.specs.laws.FirstLaws.{unless_number, unless_none}
use Rattle.rack.specs.laws.TreeLaws.{devices_left, below_le}
use Rattle.seat.specs.definitions.Table.{grants_of}
use Rattle.register_image.specs.definitions.Image.{Images, images}
use Rattle.register_image.specs.definitions.Fixed.{lengths_wrong}
use Rattle.file_record.specs.declared.Loaded.{Loaded}
use Rattle.file_record.specs.definitions.Load.{Loading, file_in, rack_alone}
use Rattle.file_record.specs.declared.Refused.{Refused}
use Rattle.file_record.specs.definitions.Loads.{Accepts, Refuses}
use Rattle.rack.specs.definitions.Refused.{refusal_number}
use Rattle.rack.specs.laws.RefusedLaws.{refusal_not_0}
use Rattle.file_record.specs.definitions.Start.{start_from, start_images}
use Rattle.file_record.specs.laws.LoadLaws.{file_long, file_begun}
use Rattle.call_table.specs.definitions.Call.{Reply, number_code}
use Rattle.call_numbers.specs.definitions.Called.{called}
use Rattle.call_numbers.specs.definitions.Numbers.{zeros, eight, value_numbers}
use Rattle.call_save.specs.definitions.Save.{save_in, buffer_in}
use Rattle.call_file.specs.definitions.Filed.{filed, rack_save, sizes, rack_open}

-- a refusal, told by its number
module _ {e : Refused} {d : Loading} (loads : Refuses e d) {n : ℕ} (en : n ≡ refusal_number e.refusal) where
  refused_as : n ≡ d.refusal
  refused_as = en ∙ loads.refusal

  not_read : d.refusal ≡ 0 → ⊥
  not_read z = refusal_not_0 e.refusal (loads.refusal ∙ z)

-- rack_save
module _ (b : List ℕ) (im : Images) {r : ℕ} {ns : List ℕ} (old : List ℕ) where
  pub save_without_rack : {e : Refused} → Refuses e (rack_alone b) → {n : ℕ} → n ≡ refusal_number e.refusal → r ≡ n → ns ≡ zeros
      → filed r ns old ≡ rack_save b im old
  unfolding rack_save
  save_without_rack loads e er en = rw (er, en, refused_as loads e) (sym (unless_number _ _ (not_read loads e)))

  pub save_made : {l : Loaded} → Accepts l (rack_alone b) → {n : Reply ℕ} {new : List ℕ}
      → n ≡ save_in (tree_of l.table) (grants_of l.grants) im (length old)
      → new ≡ buffer_in (tree_of l.table) (grants_of l.grants) im old → r ≡ number_code n → ns ≡ value_numbers n
      → filed r ns new ≡ rack_save b im old
  unfolding rack_save
  save_made loads en eb er es = rw (er, es, en, eb, loads.tree, loads.grants) (sym (unless_none _ _ (sym loads.refusal)))

-- both counts of a rack
pub bridges_fit : (node : ℕ → Node) (n : ℕ) {bridges : ℕ} → bridges ≡ bridges_below node n → bridges ≤ n
bridges_fit node n e = omega (arith, e, below_le node n)

module _ (t : Tree) {count bridges : ℕ} (at : count ≡ t.count) (e : bridges ≡ bridges_below t.node count) where
  pub sizes_are : (before : ℕ) {ns : List ℕ} → ns ≡ eight before (bridges ∷ (count - bridges) ∷ []) → ns ≡ sizes before t
  sizes_are before q = q ∙ rw (e, at, devices_left t.node t.count)

-- rack_open
pub open_refused : (b : List ℕ) {e : Refused} → Refuses e (file_in b) → {n : ℕ} → n ≡ refusal_number e.refusal → {r : ℕ} {ns : List ℕ} (bs ds : List ℕ)
    → r ≡ n → ns ≡ zeros → called r ns bs ds ≡ rack_open b (images bs ds)
unfolding rack_open
open_refused b loads e bs ds er en = rw (er, en, refused_as loads e) (sym (unless_number _ _ (not_read loads e)))

module _ (b : List ℕ) {l : Loaded} (loads : Accepts l (file_in b)) where
  accepted : (file_in b).refusal ≡ 0
  accepted = sym loads.refusal

  -- the register records and the events begin within the file
  pub registers_fit : l.registers ≤ 65536
  registers_fit = rw loads.registers (omega (arith, (file_begun b accepted).0, file_long b accepted))

  pub events_fit : l.offset ≤ length b
  events_fit = rw loads.offset (file_begun b accepted).1

  pub file_fits : length b ≤ 65536
  file_fits = file_long b accepted

  module _ (bs ds : List ℕ) {wrong : Bool} (ew : wrong ≡ lengths_wrong (tree_of l.table) (images bs ds)) where
    lengths : wrong ≡ lengths_wrong (file_in b).tree (images bs ds)
    lengths = ew ∙ ap (λ (t : Tree). lengths_wrong t (images bs ds)) loads.tree

    pub open_lengths : {ns : List ℕ} → wrong ≡ true → ns ≡ sizes 0 (tree_of l.table) → called 11 ns bs ds ≡ rack_open b (images bs ds)
    unfolding rack_open
    open_lengths w en =
        ap (λ (x : List ℕ). called 11 x bs ds) (en ∙ ap (sizes 0) loads.tree)
        ∙ sym (unless_none _ _ accepted ∙ rw (← lengths, w))

    pub open_made : {ns us vs : List ℕ} → wrong ≡ false → ns ≡ sizes l.registers (tree_of l.table)
        → images us vs ≡ start_from b (tree_of l.table) l.registers l.offset (images bs ds)
        → called 0 ns us vs ≡ rack_open b (images bs ds)
    unfolding rack_open
    open_made {ns} {us} {vs} w en es =
        let t = (file_in b).tree in
        let held : ns ≡ sizes (file_in b).registers t =
        en ∙ ap (sizes l.registers) loads.tree ∙ ap (λ (n : ℕ). sizes n t) loads.registers in
        let start : images us vs ≡ start_images b (images bs ds) =
        es ∙ ap (λ (u : Tree). start_from b u l.registers l.offset (images bs ds)) loads.tree
        ∙ ap (λ (n : ℕ). start_from b t n l.offset (images bs ds)) loads.registers
        ∙ ap (λ (n : ℕ). start_from b t (file_in b).registers n (images bs ds)) loads.offset in
        ap (λ (x : List ℕ). called 0 x us vs) held
        ∙ ap (λ (im : Images). record { code = 0; numbers = sizes (file_in b).registers t; after = im }) start
        ∙ sym (unless_none _ _ accepted ∙ rw (← lengths, w))
