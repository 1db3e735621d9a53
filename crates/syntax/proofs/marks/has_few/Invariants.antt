-- `has_few` meets its contract.
-- Assumes nothing.
use mathlib.Core.Path.{◌≡◌}
use Prim.Native.Nat.{◌+◌, ◌-◌, ◌≤◌}
use lib.ListN.{length, drop}
use Rattle.syntax.specs.Few.{marks_in}
use Rattle.syntax.proofs.marks.has_few.Given as goal

abbrev pub invariant-loop-i : goal.invariant-loop-i
invariant-loop-i l = (l.marks ≤ l.i) × (l.i ≤ length l.p) × (l.marks + marks_in (drop l.i l.p) ≡ marks_in l.p) × (length l.p ≤ 512)

abbrev pub decreases-loop-i : goal.decreases-loop-i
decreases-loop-i l = length l.p - l.i
