-- Each call over a rack is that call over tables that hold it and its grants.
use mathlib.Core.Path.{◌≡◌}
use mathlib.Core.List.{List}
use Prim.Native.Nat.{ℕ}
use Rattle.rack.specs.definitions.Tree.{Tree}
use Rattle.seat.specs.definitions.Grants.{Grants, acting}
use Rattle.register_image.specs.definitions.Image.{Images, Result}
use Rattle.file_record.specs.declared.Event.{Event}
use Rattle.rack.specs.declared.Range.{Range}
use Rattle.event_run.specs.declared.Answer.{Answer}
use Rattle.call_table.specs.definitions.Call.{Reply, refusal_by, store_refusal, read_in, stored_in, view_in, size_in, ends_in, run_in, check_in}

module _ (t : Tree) {u : Tree} (e : u ≡ t) (g : Grants) {h : Grants} (d : h ≡ g) (im : Images) where
  pub read_over : (i register : ℕ) {r : Reply ℕ} → r ≡ read_in u h im i register → r ≡ read_in t g im i register
  read_over i register = rw (e, d) (λ q. q)

  pub size_over : (i region : ℕ) {r : Reply ℕ} → r ≡ size_in u h im i region → r ≡ size_in t g im i region
  size_over i region = rw (e, d) (λ q. q)

  pub view_over : (i : ℕ) {r : List ℕ} → r ≡ view_in u h im i → r ≡ view_in t g im i
  view_over i = rw (e, d) (λ q. q)

  pub ends_over : (i k : ℕ) {r : Reply Range} → r ≡ ends_in u h im i k → r ≡ ends_in t g im i k
  ends_over i k = rw (e, d) (λ q. q)

  pub refusal_over : (i register enables : ℕ) {r : ℕ} → r ≡ refusal_by u h im (store_refusal u i register enables) 0
      → r ≡ refusal_by t g im (store_refusal t i register enables) 0
  refusal_over i register enables = rw (e, d) (λ q. q)

  pub write_over : (i register enables put : ℕ) {r : Images} → r ≡ stored_in u h im i register enables put
      → r ≡ stored_in t g im i register enables put
  write_over i register enables put = rw (e, d) (λ q. q)

  pub run_over : (seat : ℕ) (x : Event) {r : Result (Reply Answer)} → r ≡ run_in u (acting h seat) im x → r ≡ run_in t (acting g seat) im x
  run_over seat x = rw (e, d) (λ q. q)

  pub check_over : {r : Reply Answer} → r ≡ check_in u h im → r ≡ check_in t g im
  check_over = rw (e, d) (λ q. q)
