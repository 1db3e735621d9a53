-- `slot_check::permitted_run` meets its contract. Invariant: those passed and those that still lead are all that lead.
-- Assumes nothing.
use mathlib.Core.Path.{◌≡◌}
use Prim.Native.Nat.{◌+◌}
use lib.ListN.{drop}
use Rattle.syntax.specs.Segment.{permitted_run}
use Rattle.slot_check.proofs.permitted_run.Given as goal

abbrev pub invariant-loop-i : goal.invariant-loop-i
invariant-loop-i l = l.i + permitted_run (drop l.i l.x) ≡ permitted_run l.x
