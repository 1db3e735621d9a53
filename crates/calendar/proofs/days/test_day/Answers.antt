-- `test_day` meets its contract.
-- Assumes nothing.
use mathlib.Core.Path.{sym}
use Rattle.calendar.specs.Days.{day}
use Rattle.calendar.specs.Laws.{day_past}
use Rattle.calendar.proofs.days.test_day.Goals as goal

pub returns-then-days-at : goal.returns-then-days-at
returns-then-days-at c =
    let a = c.args in
    sym (day_past a.days.now a.k c.if-days-at.true)

pub returns : goal.returns
unfolding day
returns c = c.has_bit.ensures
