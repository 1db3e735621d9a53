-- What a POP comes to is what the table answers.
-- Assumes nothing.
use Rattle.std.specs.Prelude.{◌≡◌, Bool, List, ℕ, Option, Some, None, Result, Ok, Err}
use Rattle.std.proofs.Math.Path.{refl}
use Rattle.std.proofs.Common.{ap, ◌∙◌}
use Rattle.laws.specs.Choice.{choose}
use Rattle.period.specs.Period.{first_last, day_text, week_text, span_in, formed_of, rest_good, period_by, period_on, period_of, fault_number, period_answer, pop_by, pop_on, pop_answer}
use Rattle.calendar.specs.declared.Span.{Span}
use Rattle.period.specs.declared.Period.{Period}
use Rattle.period.specs.declared.Fault.{Fault}
use Rattle.period.specs.declared.Form.{Form}

module _ (wish : Bool) (at : ℕ) where
  by_said : (x : Result Form Fault) (rest : Bool) (f n : ℕ) → period_answer at (period_by x rest f n) ≡ pop_by at x rest f n
  unfolding fault_number
  by_said (Err x) rest f n = refl
  by_said (Ok form) rest f n = choose rest (λ q. rw q) (λ q. rw q)

  on_said : (x : Option Span) (g : List ℕ) → period_answer at (period_on wish x g) ≡ pop_on wish at x g
  unfolding fault_number
  on_said None g = refl
  on_said (Some s) g = by_said (formed_of wish s.count (day_text g) (week_text g)) (rest_good g) s.first s.count

  pub pop_said : (g : List ℕ) → period_answer at (period_of wish g) ≡ pop_answer wish at g
  unfolding period_of pop_answer
  pop_said g = on_said (span_in (first_last g)) g

pub period_said : (wish : Bool) (g : List ℕ) {x : Result Period Fault} → x ≡ period_of wish g → (x ≡ period_of wish g) × ((at : ℕ) → period_answer at x ≡ pop_answer wish at g)
period_said wish g e = (e, λ at. ap (period_answer at) e ∙ pop_said wish at g)
