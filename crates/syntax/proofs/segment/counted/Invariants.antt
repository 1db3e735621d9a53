use mathlib.Core.Path.{◌≡◌}
use mathlib.Core.Bool.{false}
use Prim.Native.Nat.{◌-◌}
use lib.ListN.{length, drop}
use Rattle.syntax.specs.Pieces.{first_piece}
use Rattle.syntax.specs.Segment.{segment_at}
use Rattle.syntax.specs.Onward.{onward, Within}
use Rattle.syntax.proofs.segment.counted.Given as goal

abbrev pub invariant-loop-i : goal.invariant-loop-i
invariant-loop-i l = (Within l.counts) × (onward (length l.s) l.tagged l.i l.counts (first_piece 39 false (drop l.i l.s)) ≡ segment_at l.s l.at)

abbrev pub decreases-loop-i : goal.decreases-loop-i
decreases-loop-i l = length l.s - l.i
