-- `entries::pending_at` meets its contract.
-- Assumes nothing.
use Rattle.entries.specs.Released.{one_none, one_some}
use Rattle.entries.proofs.pending_at.Goals as goal

pub returns-then-room-at-eq0 : goal.returns-then-room-at-eq0
returns-then-room-at-eq0 c = one_none c.args.room.now c.args.at c.if-room-at-eq0.true

pub returns-else-room-at-eq0 : goal.returns-else-room-at-eq0
returns-else-room-at-eq0 c = one_some c.args.room.now c.args.at c.if-room-at-eq0.false
