-- `Date::text` meets its contract.
-- Assumes nothing.
use Rattle.dates.specs.Text.{date_text}
use Rattle.dates.proofs.Date.text.Goals as goal

pub returns : goal.returns
unfolding date_text
returns c = simp (c.digit.ensures, c.digit-2.ensures, c.digit-3.ensures, c.digit-4.ensures, c.digit-5.ensures, c.digit-6.ensures, c.digit-7.ensures, c.digit-8.ensures)
