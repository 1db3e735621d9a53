-- `services::rows::is_end` meets its contract.
-- Assumes nothing.
use mathlib.Core.Path.{sym, ◌∙◌}
use Rattle.services.specs.Extents.{ends_here, ends_there}
use Rattle.services.proofs.rows.is_end.Goals as goal

pub returns-then-is_row : goal.returns-then-is_row
returns-then-is_row c =
    let a = c.args in
    ends_here a.rows.now a.i (sym c.is_row.ensures ∙ c.if-is_row.true)

pub returns : goal.returns
returns c =
    let a = c.args in
    ends_there a.rows.now a.i c.is_row-2.result (sym c.is_row.ensures ∙ c.if-is_row.false) c.is_row-2.ensures
