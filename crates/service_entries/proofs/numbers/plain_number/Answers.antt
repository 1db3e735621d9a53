-- `plain_number` meets its contract.
-- Assumes nothing.
use Rattle.parts.specs.Places.{bytes_of}
use Rattle.service_entries.specs.Ways.{number_copied}
use Rattle.service_entries.proofs.numbers.plain_number.Goals as goal

pub returns : goal.returns
returns c =
    let b = c.bytes_of in
    let a = c.args in
    number_copied (bytes_of a.s.now a.part) b.result.now c.copy_plain.new.to b.ensures c.copy_plain.ensures.left
