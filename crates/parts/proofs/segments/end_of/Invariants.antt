-- `end_of` meets its contract: what stands from here on ends where the whole does.
-- Assumes nothing.
use mathlib.Core.Path.{◌≡◌}
use Prim.Native.Nat.{◌+◌, ◌≤◌, max}
use lib.ListN.{length, drop}
use Rattle.syntax.specs.Bytes.{terminator}
use Rattle.syntax.specs.Pieces.{first_piece}
use Rattle.syntax.specs.Segment.{body_at}
use Rattle.parts.proofs.segments.end_of.Given as goal

abbrev pub invariant-loop-i : goal.invariant-loop-i
invariant-loop-i l = record {
  within : l.i ≤ max l.from (length l.s);
  left : l.i + length (first_piece terminator l.released (drop l.i l.s)) ≡ l.from + length (body_at l.s l.from);
}
