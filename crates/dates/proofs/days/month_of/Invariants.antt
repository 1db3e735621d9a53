-- `month_of` meets its contract: the days of the whole months passed, and those left, are the day of the year.
-- Assumes nothing.
use mathlib.Core.Path.{◌≡◌}
use Prim.Native.Nat.{◌+◌, ◌-◌}
use Rattle.dates.specs.Days.{month_days}
use Rattle.dates.proofs.days.month_of.Given as goal

abbrev pub invariant-loop-month : goal.invariant-loop-month
invariant-loop-month l = month_days l.year (l.month - 1) + l.left ≡ l.day
