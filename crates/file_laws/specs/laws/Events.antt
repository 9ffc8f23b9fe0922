-- An event that is read has its record's kind and values.
use Rattle.std.specs.Prelude.{◌≡◌, refl, List, [], ◌∷◌, ℕ, ◌+◌}
use borrow.Author.Tests.{eq-eqb, ne_eqb}
use Rattle.std.proofs.Common.{arith}
use Rattle.file_record.specs.definitions.Number.{byte_in, dword_in, qword_in}
use Rattle.file_record.specs.definitions.Events.{event_kind, event_values, event_in}

module _ (b : List ℕ) (o : ℕ) where
  other : {k n : ℕ} → byte_in b o ≡ k → (k ≡ n → ⊥) → byte_in b o ≡ n → ⊥
  other e ne q = ne (omega (arith, e, q))

  -- '4 configuration write (8): bus, device times 8 plus function, register, byte enables (bit i for byte i), data (4)'
  pub write_read : byte_in b o ≡ 4
      → (event_kind (event_in b o) ≡ 4)
      × (event_values (event_in b o)
      ≡ byte_in b (o + 1) ∷ byte_in b (o + 2) ∷ byte_in b (o + 3) ∷ byte_in b (o + 4) ∷ dword_in b (o + 5) ∷ [])
  unfolding event_in
  write_read e = rw (eq-eqb (byte_in b o) 4 e) (refl, refl)

  -- '5 configuration read (3): bus, device/function, register'
  pub read_read : byte_in b o ≡ 5
      → (event_kind (event_in b o) ≡ 5) × (event_values (event_in b o) ≡ byte_in b (o + 1) ∷ byte_in b (o + 2) ∷ byte_in b (o + 3) ∷ [])
  unfolding event_in
  read_read e = rw (ne_eqb (byte_in b o) 4 (other e (λ q. omega arith)), eq-eqb (byte_in b o) 5 e) (refl, refl)

  -- '6 memory access (10): initiator, 0 read or 1 write, address (8)'
  pub memory_read : byte_in b o ≡ 6
      → (event_kind (event_in b o) ≡ 6) × (event_values (event_in b o) ≡ byte_in b (o + 1) ∷ byte_in b (o + 2) ∷ qword_in b (o + 3) ∷ [])
  unfolding event_in
  memory_read e =
      rw (ne_eqb (byte_in b o) 4 (other e (λ q. omega arith)), ne_eqb (byte_in b o) 5 (other e (λ q. omega arith)), eq-eqb (byte_in b o) 6 e)
      (refl, refl)

  -- '7 I/O access (6): initiator, 0 or 1, address (4)'
  pub io_read : byte_in b o ≡ 7
      → (event_kind (event_in b o) ≡ 7) × (event_values (event_in b o) ≡ byte_in b (o + 1) ∷ byte_in b (o + 2) ∷ dword_in b (o + 3) ∷ [])
  unfolding event_in
  io_read e =
      rw (ne_eqb (byte_in b o) 4 (other e (λ q. omega arith)), ne_eqb (byte_in b o) 5 (other e (λ q. omega arith)), ne_eqb (byte_in b o) 6 (other e (λ q. omega arith)), eq-eqb (byte_in b o) 7 e)
      (refl, refl)

  -- '8 check (0)'
  pub check_read : byte_in b o ≡ 8 → (event_kind (event_in b o) ≡ 8) × (event_values (event_in b o) ≡ [])
  unfolding event_in
  check_read e =
      rw (ne_eqb (byte_in b o) 4 (other e (λ q. omega arith)), ne_eqb (byte_in b o) 5 (other e (λ q. omega arith)), ne_eqb (byte_in b o) 6 (other e (λ q. omega arith)), ne_eqb (byte_in b o) 7 (other e (λ q. omega arith)), ne_eqb (byte_in b o) 10 (other e (λ q. omega arith)))
      (refl, refl)

  -- 02, E1: 'Event kind 10 (seat)'
  pub seat_read : byte_in b o ≡ 10 → (event_kind (event_in b o) ≡ 10) × (event_values (event_in b o) ≡ byte_in b (o + 1) ∷ [])
  unfolding event_in
  seat_read e =
      rw (ne_eqb (byte_in b o) 4 (other e (λ q. omega arith)), ne_eqb (byte_in b o) 5 (other e (λ q. omega arith)), ne_eqb (byte_in b o) 6 (other e (λ q. omega arith)), ne_eqb (byte_in b o) 7 (other e (λ q. omega arith)), eq-eqb (byte_in b o) 10 e)
      (refl, refl)
