-- How long a record is: at least its byte of kind, at most 66 bytes.
use Rattle.std.specs.Prelude.{◌≡◌, refl, Bool, true, not, ◌&&◌, ◌||◌, List, [], ◌∷◌, ℕ, zero, suc, ◌≤◌, leb, eqb, get_or}
use Rattle.std.proofs.Common.{sym, arith, leb-true, eqb-true}
use Rattle.std.proofs.Math.ListN.{get_or-eq_default}
use Rattle.rack.specs.laws.Bools.{both}
use Rattle.file_record.specs.declared.Class.TheVariants as class
use Rattle.file_record.specs.definitions.Record.{Form, no_form, forms, form_of, size_of, is_a}

-- a kind past 13 has no form
pub no_form_lem : (kind : ℕ) → 14 ≤ kind → no_form ≡ form_of kind
unfolding form_of
no_form_lem kind h = sym (get_or-eq_default forms no_form h)

-- a test that passes at each form of the table, and at none, passes at each kind's
every : (Form → Bool) → List Form → Bool
every f [] = true
every f (x ∷ xs) = f x && every f xs

every_at : (f : Form → Bool) (xs : List Form) (k : ℕ) → f no_form ≡ true → every f xs ≡ true → f (get_or xs k no_form) ≡ true
unfolding every
every_at f [] k n e = n
every_at f (x ∷ xs) zero n e = (both (f x) (every f xs) e).0
every_at f (x ∷ xs) (suc k) n e = every_at f xs k n (both (f x) (every f xs) e).1

pub body_most : (kind : ℕ) → (form_of kind).body ≤ 65
unfolding form_of every
body_most kind = leb-true (form_of kind).body 65 (every_at (λ x. leb x.body 65) forms kind refl refl)

-- a host has 17 bytes, a register record 66
pub host_size : (kind : ℕ) → is_a class.Host (form_of kind).class ≡ true → size_of kind ≡ 17
unfolding form_of every
host_size kind h =
    let e = every_at (λ x. not (is_a class.Host x.class) || eqb x.body 16) forms kind refl refl in
    omega (arith, eqb-true (form_of kind).body 16 (rw h at e))

pub registers_size : (kind : ℕ) → is_a class.Registers (form_of kind).class ≡ true → size_of kind ≡ 66
unfolding form_of every
registers_size kind h =
    let e = every_at (λ x. not (is_a class.Registers x.class) || eqb x.body 65) forms kind refl refl in
    omega (arith, eqb-true (form_of kind).body 65 (rw h at e))

pub size_least : (kind : ℕ) → 1 ≤ size_of kind
size_least kind = omega arith
