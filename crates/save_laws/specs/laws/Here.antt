-- What stands in a file from an offset on, and the numbers that are read there.
use Rattle.std.specs.Prelude.{◌≡◌, List, ◌++◌, ℕ, ◌+◌, ◌*◌, ◌/◌, ◌%◌, ◌≤◌, length, get_or, take, drop}
use Rattle.std.proofs.Common.{sym, ap, ◌∙◌, arith, length-drop, length-append, get_or-drop, drop-drop}
use Rattle.std.proofs.Math.Seq.{drop-append_seam}
use Rattle.file_record.specs.definitions.Number.{byte_in, word_in, dword_in, qword_in}
use Rattle.file_record.specs.definitions.Record.{registers_in}
use Rattle.file_save.specs.definitions.Saved.{qword_bytes}

-- the file b goes on with r
pub record Here (b : List ℕ) (o : ℕ) (r : List ℕ) : Type 0 where
  pub same : drop o b ≡ r
  pub inside : o ≤ length b

module _ (b : List ℕ) (o : ℕ) (r : List ℕ) (h : Here b o r) where
  pub here_length : o + length r ≡ length b
  here_length = omega (arith, h.inside, ap length h.same, length-drop o b)

  -- what is read there is read in r
  pub here_byte : (k : ℕ) → byte_in b (o + k) ≡ byte_in r k
  here_byte k = sym (get_or-drop o b k 0) ∙ ap (λ (l : List ℕ). get_or l k 0) h.same

  pub here_kind : byte_in b o ≡ byte_in r 0
  here_kind = let e : o ≡ o + 0 = omega arith in ap (byte_in b) e ∙ here_byte 0

  pub here_word : (k : ℕ) → word_in b (o + k) ≡ word_in r k
  here_word k = let e : o + k + 1 ≡ o + (k + 1) = omega arith in rw (e, here_byte (k + 1), here_byte k)

  pub here_dword : (k : ℕ) → dword_in b (o + k) ≡ dword_in r k
  here_dword k =
      let e : o + k + 2 ≡ o + (k + 2) = omega arith in
      ap (λ (i : ℕ). word_in b i * 65536 + word_in b (o + k)) e ∙ ap (λ (x : ℕ). x * 65536 + word_in b (o + k)) (here_word (k + 2))
      ∙ ap (λ (x : ℕ). word_in r (k + 2) * 65536 + x) (here_word k)

  pub here_qword : (k : ℕ) → qword_in b (o + k) ≡ qword_in r k
  here_qword k =
      let e : o + k + 4 ≡ o + (k + 4) = omega arith in
      ap (λ (i : ℕ). dword_in b i * 4294967296 + dword_in b (o + k)) e
      ∙ ap (λ (x : ℕ). x * 4294967296 + dword_in b (o + k)) (here_dword (k + 4))
      ∙ ap (λ (x : ℕ). dword_in r (k + 4) * 4294967296 + x) (here_dword k)

  pub here_registers : registers_in b o ≡ take 64 (drop 2 r)
  here_registers = ap (take 64) (sym (drop-drop 2 o b) ∙ ap (drop 2) h.same)

-- past the first bytes of it
pub here_past : (b : List ℕ) (o : ℕ) (x y : List ℕ) → Here b o (x ++ y) → Here b (o + length x) y
here_past b o x y h =
    record {
      same = sym (drop-drop (length x) o b) ∙ ap (drop (length x)) h.same ∙ drop-append_seam x y;
      inside = omega (arith, here_length b o (x ++ y) h, length-append x y);
    }

-- 01: 'bytes are little-endian': a number that is written is read, whatever its size
pub word_read : (n : ℕ) → n / 256 * 256 + n % 256 ≡ n
word_read n = omega arith

pub qword_read : (n : ℕ) (y : List ℕ) → qword_in (qword_bytes n ++ y) 0 ≡ n
qword_read n y = omega arith
