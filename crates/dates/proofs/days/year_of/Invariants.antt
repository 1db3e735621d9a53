-- `year_of` meets its contract: the days of the whole years passed, and those left, are the number.
-- Assumes nothing.
use mathlib.Core.Path.{◌≡◌}
use Prim.Native.Nat.{◌+◌, ◌-◌}
use Rattle.dates.specs.Days.{year_days}
use Rattle.dates.proofs.days.year_of.Given as goal

abbrev pub invariant-loop-year : goal.invariant-loop-year
invariant-loop-year l = year_days (l.year - 1990) + l.left ≡ l.number
