-- What the open call answers.
use Rattle.std.specs.Prelude.{◌≡◌, ℕ, ◌<◌, Bool, true, false, Ok, Err}
use Rattle.std.proofs.Common.{sym, ◌∙◌}
use Rattle.rack.specs.declared.refusal.Refusal.TheVariants.{BadArbitration}
use Rattle.arbiter.specs.declared.State.{State}
use Rattle.arbiter.specs.declared.Turn.{Turn}
use Rattle.arbiter.specs.definitions.Arbiter.{refused, step, turn_of, arbitrate}
use Rattle.arbiter.specs.laws.Answers.{not_refused, is_refused, is_answered}

module _ (mask requests : ℕ) (s : State) {b : Bool} (e : b ≡ refused mask requests s) where
  pub refused_told : b ≡ true → Err BadArbitration ≡ arbitrate mask requests s
  refused_told t = sym (is_refused mask requests s (sym e ∙ t))

  pub few_requests : b ≡ false → requests < 1024
  few_requests t = (not_refused mask requests s (sym e ∙ t)).1

  pub answered : {t : Turn} → b ≡ false → t ≡ turn_of (step mask requests s) → Ok t ≡ arbitrate mask requests s
  answered {t} f et = rw et (sym (is_answered mask requests s (sym e ∙ f)))
