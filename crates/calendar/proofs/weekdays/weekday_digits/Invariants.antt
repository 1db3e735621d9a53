-- `weekday_digits` meets its contract: the digits placed, and those of the weekdays left, are all the digits.
-- Assumes nothing.
use mathlib.Core.Path.{◌≡◌}
use mathlib.Core.List.{◌++◌}
use Prim.Native.Nat.{◌-◌, ◌<◌}
use lib.ListN.{length, take}
use Rattle.calendar.specs.Days.{has_bit}
use Rattle.calendar.specs.Written.{digits_from}
use Rattle.calendar.proofs.weekdays.weekday_digits.Given as goal

abbrev pub invariant-loop-weekday : goal.invariant-loop-weekday
invariant-loop-weekday l = (l.count < l.weekday) × (length l.bytes ≡ 7) × (take l.count l.bytes ++ digits_from (has_bit l.week) l.weekday (8 - l.weekday) ≡ digits_from (has_bit l.week) 1 7)
