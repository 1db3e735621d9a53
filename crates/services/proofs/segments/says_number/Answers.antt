-- `services::segments::says_number` meets its contract.
-- Assumes nothing.
use Rattle.services.specs.Ways.{number_says}
use Rattle.services.proofs.segments.says_number.Goals as goal

pub returns : goal.returns
returns c =
    let a = c.args in
    number_says a.s.now a.at a.number.now c.number_at.result c.bytes_of.result.now c.same.result c.number_at.ensures c.bytes_of.ensures c.same.ensures
