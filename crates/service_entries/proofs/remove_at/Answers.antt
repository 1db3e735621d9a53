-- `remove_at` meets its contract.
-- Assumes nothing.
use Rattle.service_entries.specs.Ways.{remove_dead, remove_live}
use Rattle.service_entries.proofs.remove_at.Goals as goal

pub returns-then-room-at-eq0 : goal.returns-then-room-at-eq0
returns-then-room-at-eq0 c =
    let a = c.args in
    remove_dead a.room.now a.at c.close_gap.new.b c.if-room-at-eq0.true c.close_gap.ensures

pub returns : goal.returns
returns c =
    let a = c.args in
    remove_live a.room.now a.at c.put_bytes.new.out c.if-room-at-eq0.false c.entry_of-entry.result c.entry_of-entry.ensures c.put_bytes.ensures.1
