-- `number_of` meets its contract.
-- Assumes nothing.
use native.Mathlib.Omega.{arith}
use Rattle.dates.specs.Days.{day_number}
use Rattle.dates.specs.Facts.{date_facts, month_at_most}
use Rattle.dates.proofs.days.number_of.Goals as goal

pub days_before_year-requires : goal.days_before_year-requires
days_before_year-requires c =
    let f = date_facts _ _ _ c.requires in
    (f.from_first, f.to_last)

pub days_before_month-requires : goal.days_before_month-requires
days_before_month-requires c =
    let f = date_facts _ _ _ c.requires in
    (f.from_first, f.to_last, f.from_january, f.to_december)

pub overflow_sub-result : goal.overflow_sub-result
overflow_sub-result c = (date_facts _ _ _ c.requires).from_day_one

pub overflow_add-result-2 : goal.overflow_add-result-2
overflow_add-result-2 c =
    let a = c.args in
    omega (arith, (date_facts _ _ _ c.requires).in_month, month_at_most a.year a.month)

pub returns : goal.returns
unfolding day_number
returns c = omega (arith, c.days_before_year.ensures.0, c.days_before_month.ensures.0)
