-- `year_at` meets its contract.
-- Assumes nothing.
use mathlib.Core.Path.{sym, ◌∙◌}
use Prim.Native.Nat.{◌+◌}
use native.Mathlib.Omega.{arith}
use Rattle.dates.specs.Again.{digits_small}
use Rattle.dates.proofs.reading.year_at.Goals as goal

pub overflow_mul-result : goal.overflow_mul-result
overflow_mul-result c =
    let a = c.args in
    let x = digits_small a.text.now a.at (sym c.digits_at.ensures ∙ c.in_ok-century.was) in
    omega arith

pub overflow_add-result : goal.overflow_add-result
overflow_add-result c =
    let a = c.args in
    let x = digits_small a.text.now a.at (sym c.digits_at.ensures ∙ c.in_ok-century.was) in
    let y = digits_small a.text.now (a.at + 2) (sym c.digits_at-2.ensures ∙ c.in_ok-year.was) in
    omega arith
