-- `cuts::search` passes a release and the byte behind it at once.
-- Assumes nothing.
use Prim.Native.Nat.{◌+◌, ◌-◌, ◌≤◌}
use lib.ListN.{length}
use Rattle.cuts.specs.Laws.{Gone, found_at, found_flag}
use Rattle.cuts.proofs.search.Given as goal

abbrev pub invariant-loop-i : goal.invariant-loop-i
invariant-loop-i l = (l.i ≤ length l.s + 1) × Gone l.s l.i (found_at l.s l.from) (found_flag l.s l.from)

abbrev pub decreases-loop-i : goal.decreases-loop-i
decreases-loop-i l = length l.s + 1 - l.i
