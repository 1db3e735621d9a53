-- `plain_week` meets its contract.
-- Assumes nothing.
use mathlib.Core.Path.{◌≡◌}
use Prim.Native.Nat.{◌-◌}
use lib.ListN.{length, drop}
use Rattle.joining.specs.Weekdays.{plain_week}
use Rattle.joining.proofs.plain_week.Given as goal

abbrev pub invariant-loop-i : goal.invariant-loop-i
invariant-loop-i l = plain_week l.week (drop l.i l.g) ≡ plain_week 0 (drop l.from l.g)

abbrev pub decreases-loop-i : goal.decreases-loop-i
decreases-loop-i l = length l.g - l.i
