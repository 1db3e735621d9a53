-- `are_days` meets its contract.
-- Assumes nothing.
use mathlib.Core.Path.{◌≡◌}
use Prim.Native.Nat.{◌-◌}
use lib.Dec.{eqb}
use lib.ListN.{length, drop}
use Rattle.laws.specs.Choice.{both, all}
use Rattle.period.specs.Period.{zero_or_one}
use Rattle.period.proofs.strings.are_days.Given as goal

abbrev pub invariant-loop-word : goal.invariant-loop-word
invariant-loop-word l = both (eqb l.other 0) (all zero_or_one (drop l.i l.g)) ≡ all zero_or_one (drop l.from l.g)

abbrev pub decreases-loop-word : goal.decreases-loop-word
decreases-loop-word l = length l.g - l.i
