-- `Date::day_number` meets its contract.
-- Assumes nothing.
use Rattle.dates.specs.Dates.{day_of, number_of}
use Rattle.dates.proofs.Date.day_number.Goals as goal

pub returns : goal.returns
unfolding day_of number_of
returns c = c.day_of.ensures
