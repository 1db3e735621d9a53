-- What a writer answers fixes its case.
-- Assumes nothing.
use Rattle.std.specs.Prelude.{◌≡◌, refl, ℕ, eqb, Result, Ok, Err}
use Rattle.laws.specs.Choice.{pick}
use Rattle.answers.specs.Answers.{Answer, done, refused}
use Rattle.answers.specs.Laws.{one_case}
use Rattle.calendar.specs.Written.{written_answer}
use Rattle.calendar.specs.declared.WriteError.{WriteError}
use Rattle.calendar.specs.declared.WriteError.TheVariants.{BadCalendar, NoWeekdayForm, NoRoom}

abbrev case : Answer ℕ → Result ℕ WriteError
case (done n) = Ok n
case (refused refusal) = pick (eqb refusal.number 19) (Err BadCalendar) (pick (eqb refusal.number 20) (Err NoWeekdayForm) (Err NoRoom))

back : (x : Result ℕ WriteError) → case (written_answer x) ≡ x
back (Ok n) = refl
back (Err BadCalendar) = refl
back (Err NoWeekdayForm) = refl
back (Err NoRoom) = refl

pub written_same : (x y : Result ℕ WriteError) → written_answer x ≡ written_answer y → x ≡ y
written_same = one_case written_answer case back
