-- `shown::live_length` meets its contract.
-- Assumes nothing.
use Rattle.shown.specs.Laws.{live_length_none, live_size}
use Rattle.shown.proofs.live_length.Goals as goal

pub returns-then-slot-eq0 : goal.returns-then-slot-eq0
returns-then-slot-eq0 c = live_length_none c.args.slot.now c.args.number.now c.if-slot-eq0.true

pub returns : goal.returns
returns c = live_size c.args.slot.now c.args.number.now c.if-slot-eq0.false
