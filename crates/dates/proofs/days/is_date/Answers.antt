-- `is_date` meets its contract.
-- Assumes nothing.
use native.Mathlib.Omega.{arith}
use borrow.Author.Tests.{le-leb, lt-leb}
use Rattle.dates.specs.Days.{month_length, is_date}
use Rattle.dates.specs.Facts.{month_at_least}
use Rattle.dates.proofs.days.is_date.Goals as goal

pub returns-then-year : goal.returns-then-year
unfolding is_date
returns-then-year c = simp (lt-leb _ _ c.if-year.true)

pub returns-then-year-2 : goal.returns-then-year-2
unfolding is_date
returns-then-year-2 c = simp (le-leb _ _ c.if-year.false, lt-leb _ _ c.if-year-2.true)

pub returns-then-month-lt1 : goal.returns-then-month-lt1
unfolding is_date
returns-then-month-lt1 c = simp (le-leb _ _ c.if-year.false, le-leb _ _ c.if-year-2.false, lt-leb _ _ c.if-month-lt1.true)

pub returns-then-month-gt12 : goal.returns-then-month-gt12
unfolding is_date
returns-then-month-gt12 c = simp (le-leb _ _ c.if-year.false, le-leb _ _ c.if-year-2.false, le-leb _ _ c.if-month-lt1.false, lt-leb _ _ c.if-month-gt12.true)

pub returns-then-day-lt1 : goal.returns-then-day-lt1
unfolding is_date
returns-then-day-lt1 c =
    simp (le-leb _ _ c.if-year.false, le-leb _ _ c.if-year-2.false, le-leb _ _ c.if-month-lt1.false, le-leb _ _ c.if-month-gt12.false, lt-leb _ _ c.if-day-lt1.true)

pub returns-then-day-le28 : goal.returns-then-day-le28
unfolding is_date
returns-then-day-le28 c =
    let a = c.args in
    simp (le-leb _ _ c.if-year.false, le-leb _ _ c.if-year-2.false, le-leb _ _ c.if-month-lt1.false, le-leb _ _ c.if-month-gt12.false, le-leb _ _ c.if-day-lt1.false, le-leb a.day (month_length a.year a.month) (omega (arith, month_at_least a.year a.month, c.if-day-le28.true)))

pub returns : goal.returns
unfolding is_date
returns c =
    simp (le-leb _ _ c.if-year.false, le-leb _ _ c.if-year-2.false, le-leb _ _ c.if-month-lt1.false, le-leb _ _ c.if-month-gt12.false, le-leb _ _ c.if-day-lt1.false, c.month_length.ensures)
