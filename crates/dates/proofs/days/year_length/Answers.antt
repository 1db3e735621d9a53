-- `year_length` meets its contract.
-- Assumes nothing.
use mathlib.Core.Path.{sym, ◌∙◌}
use Rattle.dates.specs.Back.{year_leap, year_common}
use Rattle.dates.proofs.days.year_length.Goals as goal

pub returns-then-leap_year : goal.returns-then-leap_year
returns-then-leap_year c = year_leap c.args.year (sym c.leap_year.ensures ∙ c.if-leap_year.true)

pub returns-else-leap_year : goal.returns-else-leap_year
returns-else-leap_year c = year_common c.args.year (sym c.leap_year.ensures ∙ c.if-leap_year.false)
