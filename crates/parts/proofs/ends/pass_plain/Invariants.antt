-- `pass_plain` meets its contract.
-- Assumes nothing.
use mathlib.Core.Path.{◌≡◌}
use Prim.Native.Nat.{◌-◌, ◌≤◌}
use Rattle.parts.specs.Cuts.{cut_end}
use Rattle.parts.proofs.ends.pass_plain.Given as goal

abbrev pub invariant-loop-i : goal.invariant-loop-i
invariant-loop-i l = (l.from ≤ l.i) × (cut_end l.s l.i l.to l.mark ≡ cut_end l.s l.from l.to l.mark)

abbrev pub decreases-loop-i : goal.decreases-loop-i
decreases-loop-i l = l.to - l.i
