-- `mark_of` meets its contract.
-- Assumes nothing.
use Rattle.service_tests.specs.Marks.{mark_is}
use Rattle.service_tests.proofs.numbers.mark_of.Goals as goal

pub returns : goal.returns
returns c =
    mark_is c.args.number c.high.ensures c.low.ensures
