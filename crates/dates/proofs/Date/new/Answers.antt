-- `Date::new` meets its contract.
-- Assumes nothing.
use mathlib.Core.Path.{sym, ◌∙◌}
use native.Mathlib.Omega.{arith}
use Rattle.dates.specs.Dates.{made_of}
use Rattle.dates.specs.Facts.{date_facts, month_at_most}
use Rattle.dates.proofs.Date.new.Goals as goal

pub overflow_cast-result : goal.overflow_cast-result
overflow_cast-result c =
    let a = c.args in
    let h = date_facts a.year a.month a.day (sym c.is_date.ensures ∙ c.if-is_date.true) in
    omega (arith, month_at_most a.year a.month)

pub overflow_cast-result-then-is_date : goal.overflow_cast-result-then-is_date
overflow_cast-result-then-is_date c =
    let a = c.args in
    let h = date_facts a.year a.month a.day (sym c.is_date.ensures ∙ c.if-is_date.true) in
    omega (arith, month_at_most a.year a.month)

pub overflow_cast-result-then-is_date-2 : goal.overflow_cast-result-then-is_date-2
overflow_cast-result-then-is_date-2 c =
    let a = c.args in
    let h = date_facts a.year a.month a.day (sym c.is_date.ensures ∙ c.if-is_date.true) in
    omega (arith, month_at_most a.year a.month)

pub returns-then-is_date : goal.returns-then-is_date
unfolding made_of
returns-then-is_date c = simp (sym c.is_date.ensures ∙ c.if-is_date.true)

pub returns : goal.returns
unfolding made_of
returns c = simp (sym c.is_date.ensures ∙ c.if-is_date.false)
