-- `days_before_month` meets its contract.
-- Assumes nothing.
use native.Mathlib.Omega.{arith}
use Rattle.dates.specs.Formula.{before_march, leap_from_march, common_from_march}
use Rattle.dates.proofs.days.days_before_month.Goals as goal

pub returns-then-month-lt3 : goal.returns-then-month-lt3
returns-then-month-lt3 c =
    let a = c.args in
    (before_march a.year a.month (omega arith) (omega arith) (omega arith) (omega arith) c.if-month-lt3.true, omega arith)

pub returns-then-year-eq0 : goal.returns-then-year-eq0
returns-then-year-eq0 c =
    let a = c.args in
    (leap_from_march a.year a.month (omega arith) (omega arith) (omega arith) (omega arith) c.if-month-lt3.false c.if-year-eq0.true, omega arith)

pub returns-else-year-eq0 : goal.returns-else-year-eq0
returns-else-year-eq0 c =
    let a = c.args in
    (common_from_march a.year a.month (omega arith) (omega arith) (omega arith) (omega arith) c.if-month-lt3.false c.if-year-eq0.false, omega arith)
