-- The size of region r, and the bytes as they were, from what the code has written and read.
use Rattle.std.proofs.Common.{◌≡◌, ℕ, ◌+◌, ◌*◌, ◌^◌, ◌<◌, ◌≤◌, false, ◌≢◌, List, get_or, ◌∙◌, arith, w8, Fits, ne_eqb}
use Rattle.rack.specs.declared.Node.{Node}
use Rattle.rack.specs.definitions.Node.{is_bridge}
use Rattle.register_header.specs.definitions.PciRegs.{BASE_ADDRESS}
use Rattle.register_header.specs.definitions.Sizing.{read_back, written_back, cleared, negated, region_register, size_part}
use Rattle.register_header.proofs.Restore.{written_back_lem}

module _ (n : Node) (l : List ℕ) (kind r : ℕ) {x s : ℕ} where
  pub size_io : kind ≡ 1 → x ≡ read_back n l (region_register r) → s ≡ negated 32 (cleared 4 x) → s ≡ size_part n l kind (region_register r)
  unfolding size_part
  size_io q ex es = rw (q, ← ex) es

  pub size_memory : kind ≡ 2 → x ≡ read_back n l (region_register r) → s ≡ negated 32 (cleared 16 x) → s ≡ size_part n l kind (region_register r)
  unfolding size_part
  size_memory q ex es = rw (q, ← ex) es

pub size_none : (n : Node) (l : List ℕ) (kind r : ℕ) → kind ≢ 1 → kind ≢ 2 → kind ≢ 3 → 0 ≡ size_part n l kind (region_register r)
unfolding size_part
size_none n l kind r x y z = rw (ne_eqb kind 1 x, ne_eqb kind 2 y, ne_eqb kind 3 z)

module _ {r : ℕ} (h : r < 3) (n : Node) (device : is_bridge n.kind ≡ false) (l : List ℕ) (bytes : (i : ℕ) → Fits w8 (get_or l i 0)) where
  back : (at : ℕ) → BASE_ADDRESS ≤ at → at + 3 < BASE_ADDRESS + 24 → written_back n l at ≡ l
  back = written_back_lem n device l (λ i. (bytes i).fits)

  pub same : {m : List ℕ} → m ≡ written_back n l (region_register r) → m ≡ l
  same e = e ∙ back (region_register r) (omega arith) (omega arith)

  module _ {k : List ℕ} (ek : k ≡ written_back n l (region_register r + 4)) where
    is : k ≡ l
    is = ek ∙ back (region_register r + 4) (omega arith) (omega arith)

    pub same_wide : {m : List ℕ} → m ≡ written_back n k (region_register r) → m ≡ l
    same_wide e = same (rw is at e)

    pub size_wide : (kind : ℕ) {high low s : ℕ} → kind ≡ 3 → high ≡ read_back n l (region_register r + 4) → low ≡ read_back n k (region_register r)
        → s ≡ negated 64 (cleared 16 (high * 2 ^ 32 + low)) → s ≡ size_part n l kind (region_register r)
    unfolding size_part
    size_wide kind q eh el es = rw (q, ← eh, ← is, ← el) es
