-- `digits_at` meets its contract.
-- Assumes nothing.
use Rattle.dates.specs.Text.{digits_at}
use Rattle.dates.proofs.reading.digits_at.Goals as goal

pub returns : goal.returns
unfolding digits_at
returns c = c.two_digits.ensures
