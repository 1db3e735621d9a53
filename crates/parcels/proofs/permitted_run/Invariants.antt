-- `parcels::permitted_run` meets its contract. Invariant: the bytes up to here are permitted, so that the rest decides.
-- Assumes nothing.
use mathlib.Core.Path.{◌≡◌}
use Prim.Native.Nat.{◌+◌, ◌-◌}
use lib.ListN.{length, drop}
use Rattle.syntax.specs.Segment.{permitted_run}
use Rattle.parcels.proofs.permitted_run.Given as goal

abbrev pub invariant-loop-i : goal.invariant-loop-i
invariant-loop-i l = l.i + permitted_run (drop l.i l.text) ≡ permitted_run l.text

abbrev pub decreases-loop-i : goal.decreases-loop-i
decreases-loop-i l = length l.text - l.i
