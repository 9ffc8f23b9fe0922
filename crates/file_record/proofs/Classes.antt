-- Classes that the code compares by `==` are the same where their numbers are.
use mathlib.Core.Path.{◌≡◌, refl, sym, ◌∙◌}
use Prim.Native.Nat.{ℕ}
use lib.Dec.{eqb}
use denote.Enum.Bare.{sameb}
use denote.Enum.Declared.{tag_of}
use borrow.Author.Tests.{eqb-true, eqb-false, eq-eqb, ne_eqb}
use Rattle.rack.specs.laws.Bools.{tested}
use Rattle.file_record.specs.contracts.Class.{the_type}
use Rattle.file_record.specs.declared.Class.{Class}
use Rattle.file_record.specs.declared.Class.TheVariants as class
use Rattle.file_record.specs.definitions.Record.{class_number, is_a}

number_is : (c : Class) → tag_of the_type c ≡ class_number c
number_is class.Unknown = refl
number_is class.Host = refl
number_is class.Node = refl
number_is class.Seat = refl
number_is class.Registers = refl
number_is class.Event = refl

either_way : (m n : ℕ) → eqb m n ≡ eqb n m
either_way m n =
    tested (eqb m n) (λ q. q ∙ sym (eq-eqb n m (sym (eqb-true m n q))))
    (λ q. q ∙ sym (ne_eqb n m (λ e. eqb-false m n q (sym e))))

pub same_is : (c k : Class) → sameb the_type c k ≡ is_a k c
same_is c k = rw (number_is c, number_is k) (either_way (class_number c) (class_number k))
