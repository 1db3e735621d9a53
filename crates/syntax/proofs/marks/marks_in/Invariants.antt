-- `marks_in` meets its contract.
-- Assumes nothing.
use mathlib.Core.Path.{◌≡◌}
use Prim.Native.Nat.{◌+◌, ◌≤◌}
use lib.ListN.{length, drop}
use Rattle.syntax.specs.Few.{marks_in}
use Rattle.syntax.proofs.marks.marks_in.Given as goal

abbrev pub invariant-loop-b : goal.invariant-loop-b
invariant-loop-b l = (l.marks ≤ l.b-index) × (l.marks + marks_in (drop l.b-index l.p) ≡ marks_in l.p) × (length l.p ≤ 128)
