-- `new_slot` meets its contract.
-- Assumes nothing.
use Rattle.service_entries.specs.Ways.{slot_is}
use Rattle.service_entries.proofs.new_slot.Goals as goal

pub returns : goal.returns
returns c =
    let a = c.args in
    slot_is a.number a.entry c.put_bytes.new.out c.put_bytes-2.new.out c.put_bytes.ensures.1 c.put_bytes-2.ensures.1
