-- `day_of` meets its contract.
-- Assumes nothing.
use mathlib.Core.Path.{sym, ◌∙◌}
use Rattle.dates.specs.Dates.{day_of}
use Rattle.dates.proofs.days.day_of.Goals as goal

pub number_of-requires : goal.number_of-requires
number_of-requires c = sym c.is_date.ensures ∙ c.if-is_date.true

pub returns-then-is_date : goal.returns-then-is_date
unfolding day_of
returns-then-is_date c = simp (sym c.is_date.ensures ∙ c.if-is_date.true, c.number_of.ensures)

pub returns : goal.returns
unfolding day_of
returns c = simp (sym c.is_date.ensures ∙ c.if-is_date.false)
