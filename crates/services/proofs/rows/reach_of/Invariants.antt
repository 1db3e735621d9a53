-- `services::rows::reach_of` meets its contract: one walk, and what it knows at each row.
-- Assumes nothing.
use Prim.Native.Nat.{◌-◌}
use Rattle.services.specs.Extents.{Walked}
use Rattle.services.proofs.rows.reach_of.Given as goal

abbrev pub invariant-loop-i : goal.invariant-loop-i
invariant-loop-i l = Walked l.rows l.from l.n l.own l.i

abbrev pub decreases-loop-i : goal.decreases-loop-i
decreases-loop-i l = l.n - l.i
