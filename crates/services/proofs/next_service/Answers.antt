-- `services::next_service` meets its contract.
-- Assumes nothing.
use mathlib.Core.Path.{refl, ◌∙◌}
use native.Mathlib.Omega.{arith}
use Rattle.services.specs.Search.{found_row, found_no_row}
use Rattle.services.specs.Services.{is_service}
use Rattle.services.specs.Ways.{next_none, next_some}
use borrow.Author.Rules.{rules}
use Rattle.services.proofs.next_service.Goals as goal

pub first_row-requires : goal.first_row-requires
first_row-requires c =
    let e = c.row_count-count.ensures in
    omega arith

pub returns-in_err-k : goal.returns-in_err-k
returns-in_err-k c =
    let a = c.args in
    let n = c.row_count-count.result in
    c.from_residual.ensures
    ∙ next_none a.s.now a.rows.now a.i a.n n _ c.row_count-count.ensures refl (found_no_row (is_service a.rows.now) a.i n c.first_row.result c.first_row.ensures c.in_err-k.was)

pub service_at-requires : goal.service_at-requires
service_at-requires c =
    let a = c.args in
    let e = c.row_count-count.ensures in
    let w = found_row (is_service a.rows.now) a.i c.row_count-count.result c.first_row.result c.first_row.ensures c.in_ok-k.k c.in_ok-k.was in
    (w.1, omega arith)

pub returns : goal.returns
returns c =
    let a = c.args in
    let w = found_row (is_service a.rows.now) a.i c.row_count-count.result c.first_row.result c.first_row.ensures c.in_ok-k.k c.in_ok-k.was in
    next_some a.s.now a.rows.now a.i a.n c.row_count-count.result c.in_ok-k.k c.row_count-count.ensures w.0 c.service_at.result c.service_at.ensures w.1
