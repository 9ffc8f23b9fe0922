-- The answer to an event: its number and values.
use Rattle.std.specs.Prelude.{ℕ, List, [], ◌∷◌}
use Rattle.route_bus.specs.definitions.End.{outcome_number}
use Rattle.check_search.specs.definitions.Report.{report_number, report_values}
use Rattle.event_run.specs.declared.Ending.{Ending}
use Rattle.event_run.specs.declared.Ending.TheVariants.{Data, Stored, Owner, Host, Unclaimed, Clash, Special, Silent, Denied}
use Rattle.event_run.specs.declared.Answer.{Answer}
use Rattle.event_run.specs.declared.Answer.TheVariants.{Ended, Checked, Seated}

-- the endings in the order of 'The program'; past 8 and 9, which are a check's, those of document 02
abbrev pub ending_number : Ending → ℕ
ending_number (Data v) = 1
ending_number Stored = 2
ending_number (Owner n r o) = 3
ending_number (Host o) = 4
ending_number (Unclaimed h o) = 5
ending_number (Clash h x y) = 6
ending_number Silent = 7
ending_number (Special h) = 12
ending_number Denied = 10

-- the fields of its line, in order; c is the number of crossings
abbrev pub ending_values : ℕ → Ending → List ℕ
ending_values c (Data v) = c ∷ v ∷ []
ending_values c Stored = c ∷ []
ending_values c (Owner n r o) = c ∷ n ∷ r ∷ o ∷ []
ending_values c (Host o) = c ∷ o ∷ []
ending_values c (Unclaimed h o) = c ∷ h ∷ outcome_number o ∷ []
ending_values c (Clash h x y) = c ∷ h ∷ x ∷ y ∷ []
ending_values c (Special h) = c ∷ h ∷ []
ending_values c Silent = []
ending_values c Denied = c ∷ []

-- 0 is a refusal's number; then the endings, those of a check, and that of a seat event
abbrev pub answer_number : Answer → ℕ
answer_number (Ended c e) = ending_number e
answer_number (Checked r) = report_number r
answer_number (Seated seat) = 11

abbrev pub answer_values : Answer → List ℕ
answer_values (Ended c e) = ending_values c e
answer_values (Checked r) = report_values r
answer_values (Seated seat) = seat ∷ []

-- 01: 'An answer's crossings are the number of times a bridge took the access across, up or down'
abbrev pub crossings_of : Answer → ℕ
crossings_of (Ended c e) = c
crossings_of (Checked r) = 0
crossings_of (Seated seat) = 0
