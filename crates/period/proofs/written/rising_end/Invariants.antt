-- `rising_end` meets its contract.
-- Assumes nothing.
use mathlib.Core.Path.{◌≡◌}
use Prim.Native.Nat.{◌+◌, ◌-◌}
use lib.ListN.{length, drop}
use Rattle.period.specs.Pops.{rising_run}
use Rattle.period.proofs.written.rising_end.Given as goal

abbrev pub invariant-loop-i : goal.invariant-loop-i
invariant-loop-i l = l.i + rising_run l.last (drop l.i l.g) ≡ l.from + rising_run 48 (drop l.from l.g)

abbrev pub decreases-loop-i : goal.decreases-loop-i
decreases-loop-i l = length l.g - l.i
