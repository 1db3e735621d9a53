-- `walk` meets its contract.
-- Assumes nothing.
use mathlib.Core.Path.{◌≡◌}
use Prim.Native.Nat.{◌-◌, ◌≤◌, ◌<◌}
use lib.ListN.{length}
use Rattle.parts.specs.Cuts.{cut_end}
use Rattle.parts.proofs.ends.walk.Given as goal

abbrev pub invariant-loop-i : goal.invariant-loop-i
invariant-loop-i l = (l.from < l.stop) × (l.stop ≤ l.end) × (l.i ≤ l.end) × (l.end ≤ length l.s) × (cut_end l.s l.i l.end l.mark ≡ cut_end l.s l.from l.end l.mark)

abbrev pub decreases-loop-i : goal.decreases-loop-i
decreases-loop-i l = l.end - l.i
