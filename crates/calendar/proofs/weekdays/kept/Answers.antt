-- `kept` meets its contract.
-- Assumes nothing.
use mathlib.Core.Path.{sym}
use Rattle.calendar.specs.WeekLaws.{here}
use Rattle.calendar.proofs.weekdays.kept.Goals as goal

pub returns-then-not-has_bit : goal.returns-then-not-has_bit
returns-then-not-has_bit c =
    let a = c.args in
    here a.week a.days.now a.first a.k c.weekday.ensures (rw (sym c.has_bit.ensures, c.if-not-has_bit.true))

pub returns-else-not-has_bit : goal.returns-else-not-has_bit
returns-else-not-has_bit c =
    let a = c.args in
    here a.week a.days.now a.first a.k c.weekday.ensures (rw (sym c.has_bit.ensures, c.if-not-has_bit.false) c.test_day.ensures)
