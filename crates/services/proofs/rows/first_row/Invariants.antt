-- `services::rows::first_row` meets its contract: the search from here on finds what the whole search finds.
-- Assumes nothing.
use mathlib.Core.Path.{◌≡◌}
use Rattle.services.specs.Rows.{is_row, first_from}
use Rattle.services.proofs.rows.first_row.Given as goal

abbrev pub invariant-loop-i : goal.invariant-loop-i
invariant-loop-i l = first_from (is_row l.rows l.group l.tag) l.i l.to ≡ first_from (is_row l.rows l.group l.tag) l.from l.to
