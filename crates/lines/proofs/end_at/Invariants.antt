-- `lines::end_at` stops at the first mark.
-- Assumes nothing.
use Prim.Native.Nat.{◌≤◌, max}
use mathlib.Core.Path.{◌≡◌}
use lib.ListN.{length}
use Rattle.lines.specs.Lines.{end_at}
use Rattle.lines.proofs.end_at.Given as goal

abbrev pub invariant-loop-i : goal.invariant-loop-i
invariant-loop-i l = record {
  within : l.i ≤ max l.from (length l.s);
  left : end_at l.s l.i l.mark ≡ end_at l.s l.from l.mark;
}
