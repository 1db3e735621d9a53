-- `services::is_twice` meets its contract: the search goes from one service to the next.
-- Assumes nothing.
use mathlib.Core.Path.{◌≡◌}
use Prim.Native.Nat.{◌-◌, ◌≤◌}
use Rattle.services.specs.Rows.{first_from}
use Rattle.services.specs.Services.{is_same_service}
use Rattle.services.proofs.is_twice.Given as goal

abbrev pub invariant-loop-k : goal.invariant-loop-k
invariant-loop-k l = (l.i ≤ l.count) × (first_from (is_same_service l.s l.rows l.number) l.i l.count ≡ first_from (is_same_service l.s l.rows l.number) 0 l.count)

abbrev pub decreases-loop-k : goal.decreases-loop-k
decreases-loop-k l = l.count - l.i
