-- `services::rows::period_row` meets its contract: the search from here on finds what the whole search finds.
-- Assumes nothing.
use mathlib.Core.Path.{◌≡◌}
use Prim.Native.Nat.{◌-◌}
use Rattle.services.specs.Rows.{first_from}
use Rattle.services.specs.Services.{is_period_row}
use Rattle.services.proofs.rows.period_row.Given as goal

abbrev pub invariant-loop-i : goal.invariant-loop-i
invariant-loop-i l = first_from (is_period_row l.rows) l.i l.to ≡ first_from (is_period_row l.rows) l.from l.to

abbrev pub decreases-loop-i : goal.decreases-loop-i
decreases-loop-i l = l.to - l.i
