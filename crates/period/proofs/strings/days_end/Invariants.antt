-- `days_end` meets its contract.
-- Assumes nothing.
use mathlib.Core.Path.{◌≡◌}
use Prim.Native.Nat.{◌+◌, ◌-◌}
use lib.ListN.{length, drop}
use Rattle.laws.specs.Leads.{run_of}
use Rattle.period.specs.Period.{zero_or_one}
use Rattle.period.proofs.strings.days_end.Given as goal

abbrev pub invariant-loop-word : goal.invariant-loop-word
invariant-loop-word l = l.i + run_of zero_or_one (drop l.i l.g) ≡ l.from + run_of zero_or_one (drop l.from l.g)

abbrev pub decreases-loop-word : goal.decreases-loop-word
decreases-loop-word l = length l.g - l.i
