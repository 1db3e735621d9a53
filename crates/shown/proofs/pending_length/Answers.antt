-- `shown::pending_length` meets its contract.
-- Assumes nothing.
use Rattle.shown.specs.Laws.{pending_length_none, put_size, del_size}
use Rattle.shown.proofs.pending_length.Goals as goal

pub returns-then-slot-eq0 : goal.returns-then-slot-eq0
returns-then-slot-eq0 c = pending_length_none c.args.slot.now c.args.number.now c.if-slot-eq0.true

pub returns-then-slot-eq1 : goal.returns-then-slot-eq1
returns-then-slot-eq1 c = put_size c.args.slot.now c.args.number.now c.if-slot-eq0.false c.if-slot-eq1.true

pub returns : goal.returns
returns c = del_size c.args.slot.now c.args.number.now c.if-slot-eq0.false c.if-slot-eq1.false
