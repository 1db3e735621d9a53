-- `weekdays_of` meets its contract: after k turns the byte is that of the first k days.
-- Assumes nothing.
use mathlib.Core.Path.{◌≡◌}
use Rattle.calendar.specs.Week.{week_of}
use Rattle.calendar.proofs.weekdays.weekdays_of.Given as goal

abbrev pub invariant-loop-k : goal.invariant-loop-k
invariant-loop-k l = l.week ≡ week_of l.days l.first l.k
