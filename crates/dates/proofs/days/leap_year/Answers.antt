-- `leap_year` meets its contract.
-- Assumes nothing.
use borrow.Author.Tests.{eq-eqb, ne_eqb}
use Rattle.dates.specs.Days.{leap_year}
use Rattle.dates.proofs.days.leap_year.Goals as goal

pub returns-then-year-eq0 : goal.returns-then-year-eq0
unfolding leap_year
returns-then-year-eq0 c = simp (eq-eqb _ _ c.if-year-eq0.true)

pub returns : goal.returns
unfolding leap_year
returns c = simp (ne_eqb _ _ c.if-year-eq0.false)
