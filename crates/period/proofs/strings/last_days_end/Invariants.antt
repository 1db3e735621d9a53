-- `last_days_end` meets its contract.
-- Assumes nothing.
use mathlib.Core.Path.{◌≡◌}
use Prim.Native.Nat.{◌+◌, ◌-◌}
use lib.ListN.{length, drop}
use Rattle.laws.specs.Leads.{run_of}
use Rattle.period.specs.Period.{zero_or_one}
use Rattle.period.proofs.strings.last_days_end.Given as goal

abbrev pub invariant-loop-i : goal.invariant-loop-i
invariant-loop-i l = l.i + run_of zero_or_one (drop l.i l.g) ≡ l.from + run_of zero_or_one (drop l.from l.g)

abbrev pub decreases-loop-i : goal.decreases-loop-i
decreases-loop-i l = length l.g - l.i
