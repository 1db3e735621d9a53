-- `services::numbers::number_fits` meets its contract.
-- Assumes nothing.
use Rattle.services.specs.Numbers.{fits_short, fits_none, fits_few}
use Rattle.services.proofs.numbers.number_fits.Goals as goal

pub returns-then-number-le10 : goal.returns-then-number-le10
returns-then-number-le10 c = fits_short c.args.number.now c.if-number-ge2.true c.if-number-le10.true

pub returns-then-length-lt1 : goal.returns-then-length-lt1
returns-then-length-lt1 c =
    fits_none c.args.number.now c.plain_length-length.result c.plain_length-length.ensures c.if-length-lt1.true

pub returns : goal.returns
returns c =
    fits_few c.args.number.now c.plain_length-length.result c.plain_length-length.ensures c.if-length-lt1.false
