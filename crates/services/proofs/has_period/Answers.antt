-- `services::has_period` meets its contract.
-- Assumes nothing.
use mathlib.Core.Path.{refl, ◌∙◌}
use native.Mathlib.Omega.{arith}
use Rattle.services.specs.Rows.{first_from}
use Rattle.services.specs.Search.{found_some}
use Rattle.services.specs.Services.{is_period_row}
use Rattle.services.specs.Ways.{period_has}
use Rattle.services.proofs.has_period.Goals as goal

pub period_row-requires : goal.period_row-requires
period_row-requires c =
    let e = c.row_count-count.ensures in
    omega arith

pub returns : goal.returns
returns c =
    let a = c.args in
    let n = c.row_count-count.result in
    c.is_some.ensures
    ∙ found_some (is_period_row a.rows.now) a.from n c.period_row.result c.period_row.ensures
    ∙ period_has a.rows.now a.from a.to n (first_from (is_period_row a.rows.now) a.from n) c.row_count-count.ensures refl
