-- `tables::hold_places` is safe and ends: the measure is what is left of the rows. Assumes nothing.
use Prim.Native.Nat.{◌-◌}
use Rattle.tables.proofs.hold_places.Given as goal

abbrev pub invariant-loop-row : goal.invariant-loop-row
invariant-loop-row g l = Unit {0}

abbrev pub decreases-loop-row : goal.decreases-loop-row
decreases-loop-row g l = l.to - l.row
