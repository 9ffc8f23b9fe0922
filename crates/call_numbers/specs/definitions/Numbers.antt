-- An answer as eight numbers: its own, the fields of its line, and zeros after them; and what a call returns with it.
use Rattle.std.specs.Prelude.{ℕ, cond, Option, Some, None, Result, Ok, Err, List, [], ◌∷◌, ◌++◌, take}
use Rattle.claim_window.specs.definitions.Range.{is_empty}
use Rattle.event_run.specs.declared.Answer.{Answer}
use Rattle.event_run.specs.definitions.Answers.{answer_number, answer_values}
use Rattle.rack.specs.declared.refusal.Refusal.{Refusal}
use Rattle.arbiter.specs.declared.State.{State}
use Rattle.arbiter.specs.declared.Turn.{Turn}
use Rattle.rack.specs.declared.Range.{Range}
use Rattle.call_table.specs.definitions.Call.{Reply}

abbrev pub zeros : List ℕ
zeros = 0 ∷ 0 ∷ 0 ∷ 0 ∷ 0 ∷ 0 ∷ 0 ∷ 0 ∷ []

-- a number, its values, and zeros after them: eight in all
abbrev pub eight : ℕ → List ℕ → List ℕ
eight number values = take 8 (number ∷ (values ++ zeros))

-- an answer's number and the fields of its line
abbrev pub numbers_of : Answer → List ℕ
numbers_of a = eight (answer_number a) (answer_values a)

-- 01: 'and return the number'; 0 where nothing is refused
abbrev pub told_code : {A : Type 0} → Reply A → ℕ
told_code (Err n) = n
told_code (Ok x) = 0

abbrev pub code_of : Reply Answer → ℕ
code_of (Err n) = n
code_of (Ok a) = 0

abbrev pub reply_numbers : Reply Answer → List ℕ
reply_numbers (Err n) = zeros
reply_numbers (Ok a) = numbers_of a

-- a number alone
abbrev pub value_numbers : Reply ℕ → List ℕ
value_numbers (Err n) = zeros
value_numbers (Ok v) = eight v []

-- both ends of a window or region: 1, the first and the last address; all 0 where it is empty
abbrev pub ends_code : Reply Range → ℕ
ends_code (Err n) = n
ends_code (Ok r) = 0

abbrev pub ends_numbers : Reply Range → List ℕ
ends_numbers (Err n) = zeros
ends_numbers (Ok r) = cond (is_empty r) zeros (eight 1 (r.first ∷ r.last ∷ []))

-- a step of the arbiter: 1, the member granted and the state after; or 2 and the state, where there is no grant
abbrev pub turn_numbers : Option ℕ → State → List ℕ
turn_numbers None s = eight 2 (s.high ∷ s.low ∷ [])
turn_numbers (Some member) s = eight 1 (member ∷ s.high ∷ s.low ∷ [])

abbrev pub arbitration_numbers : Result Turn Refusal → List ℕ
arbitration_numbers (Err r) = zeros
arbitration_numbers (Ok t) = turn_numbers t.member t.after

-- of a step whose refusal is a number
abbrev pub step_numbers : Reply Turn → List ℕ
step_numbers (Err n) = zeros
step_numbers (Ok t) = turn_numbers t.member t.after
