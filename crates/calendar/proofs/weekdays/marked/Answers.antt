-- `marked` meets its contract.
-- Assumes nothing.
use mathlib.Core.Path.{sym, ◌∙◌}
use Rattle.calendar.specs.Week.{mark}
use Rattle.calendar.proofs.weekdays.marked.Goals as goal

pub returns-then-test_day : goal.returns-then-test_day
unfolding mark
returns-then-test_day c = rw (sym c.test_day.ensures ∙ c.if-test_day.true) c.with_bit.ensures

pub returns-else-test_day : goal.returns-else-test_day
unfolding mark
returns-else-test_day c = rw (sym c.test_day.ensures ∙ c.if-test_day.false)
