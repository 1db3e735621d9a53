-- `services::segments::says_removal` meets its contract.
-- Assumes nothing.
use Rattle.services.specs.Ways.{removal_says}
use Rattle.services.proofs.segments.says_removal.Goals as goal

pub returns : goal.returns
returns c =
    let a = c.args in
    removal_says a.s.now a.at c.segment_at.result c.part_at-code.result c.segment_at.ensures c.part_at-code.ensures c.bytes_of.result.now c.equals.result c.bytes_of.ensures c.equals.ensures
