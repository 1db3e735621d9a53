-- `parcel_cases::expand` is safe and ends: past a piece stands less of the notation.
-- Assumes nothing.
use Prim.Native.Nat.{◌-◌}
use mathlib.Core.Path.{◌≡◌}
use lib.ListN.{length}
use Rattle.parcel_cases.proofs.expand.Given as goal

abbrev pub invariant-loop-i : goal.invariant-loop-i
invariant-loop-i l = length l.out ≡ length l.initial.out

abbrev pub decreases-loop-i : goal.decreases-loop-i
decreases-loop-i l = length l.notation - l.i
