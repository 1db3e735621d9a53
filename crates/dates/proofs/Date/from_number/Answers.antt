-- `Date::from_number` meets its contract.
-- Assumes nothing.
use Rattle.dates.specs.Back.{past_last, found}
use Rattle.dates.proofs.Date.from_number.Goals as goal

pub returns-then-number-ge40177 : goal.returns-then-number-ge40177
returns-then-number-ge40177 c = past_last c.args.number c.if-number-ge40177.true

pub returns : goal.returns
returns c =
    found c.args.number c.if-number-ge40177.false c.year_of-year.ensures
    c.month_of-month.ensures c.new.ensures
