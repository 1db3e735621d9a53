-- `number_of` meets its contract.
-- Assumes nothing.
use Rattle.service_entries.proofs.numbers.number_of.Goals as goal

pub returns : goal.returns
returns c = c.read_number-number.ensures.0
