-- `services::next_period` meets its contract.
-- Assumes nothing.
use mathlib.Core.Path.{refl, ◌∙◌}
use native.Mathlib.Omega.{arith}
use Rattle.services.specs.Search.{found_row, found_no_row}
use Rattle.services.specs.Services.{is_period_row}
use Rattle.services.specs.Ways.{period_none, period_some}
use Rattle.services.proofs.next_period.Goals as goal

pub period_row-requires : goal.period_row-requires
period_row-requires c =
    let e = c.row_count-count.ensures in
    omega arith

pub returns-in_err-row : goal.returns-in_err-row
returns-in_err-row c =
    let a = c.args in
    let n = c.row_count-count.result in
    c.from_residual.ensures
    ∙ period_none a.rows.now a.i a.to n _ c.row_count-count.ensures refl (found_no_row (is_period_row a.rows.now) a.i n c.period_row.result c.period_row.ensures c.in_err-row.was)

pub returns : goal.returns
returns c =
    let a = c.args in
    let w = found_row (is_period_row a.rows.now) a.i c.row_count-count.result c.period_row.result c.period_row.ensures c.in_ok-row.row c.in_ok-row.was in
    period_some a.rows.now a.i a.to c.row_count-count.result c.in_ok-row.row c.row_count-count.ensures w.0 c.offset_of.result c.offset_of.ensures w.1
