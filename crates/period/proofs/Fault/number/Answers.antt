-- `Fault::number` meets its contract.
-- Assumes nothing.
use mathlib.Core.Path.{sym, ap}
use Rattle.period.specs.Period.{fault_number}
use Rattle.period.proofs.Fault.number.Goals as goal

pub returns-in-BadDates : goal.returns-in-BadDates
unfolding fault_number
returns-in-BadDates c = sym (ap fault_number c.in-BadDates.is)

pub returns-in-BadDayString : goal.returns-in-BadDayString
unfolding fault_number
returns-in-BadDayString c = sym (ap fault_number c.in-BadDayString.is)

pub returns-in-BadWeekdays : goal.returns-in-BadWeekdays
unfolding fault_number
returns-in-BadWeekdays c = sym (ap fault_number c.in-BadWeekdays.is)

pub returns-in-BothForms : goal.returns-in-BothForms
unfolding fault_number
returns-in-BothForms c = sym (ap fault_number c.in-BothForms.is)

pub returns-in-NeitherForm : goal.returns-in-NeitherForm
unfolding fault_number
returns-in-NeitherForm c = sym (ap fault_number c.in-NeitherForm.is)

pub returns-in-BadRest : goal.returns-in-BadRest
unfolding fault_number
returns-in-BadRest c = sym (ap fault_number c.in-BadRest.is)
