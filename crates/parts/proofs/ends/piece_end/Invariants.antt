-- `piece_end` meets its contract.
-- Assumes nothing.
use mathlib.Core.Path.{◌≡◌}
use Prim.Native.Nat.{◌-◌}
use Rattle.parts.specs.Cuts.{cut_end}
use Rattle.parts.proofs.ends.piece_end.Given as goal

abbrev pub invariant-loop-at : goal.invariant-loop-at
invariant-loop-at l = cut_end l.s l.i l.end l.mark ≡ cut_end l.s l.from l.end l.mark

abbrev pub decreases-loop-at : goal.decreases-loop-at
decreases-loop-at l = l.end - l.i
