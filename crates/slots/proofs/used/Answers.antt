-- `slots::used` meets its contract. Invariant: those passed and those that still lead are all that lead.
-- Assumes nothing.
use Rattle.std.proofs.Common.{zero-add, arith}
use Rattle.slots.specs.Slots.{slots_of}
use Rattle.slots.specs.Rising.{leading, leading_end, leading_stop, leading_on}
use Rattle.slots.proofs.used.Goals as goal

pub loop-k-init : goal.loop-k-init
loop-k-init c = zero-add (leading (slots_of c.args.room.now))

pub returns-then-room-k-eq0 : goal.returns-then-room-k-eq0
returns-then-room-k-eq0 c =
    let e = leading_stop c.args.room.now c.loop-k.k c.loop-k-test.true c.if-room-k-eq0.true in
    let v = c.loop-k.invariant in
    omega arith

pub loop-k-preserved : goal.loop-k-preserved
loop-k-preserved c =
    let e = leading_on c.args.room.now c.loop-k.k c.loop-k-test.true c.if-room-k-eq0.false in
    let v = c.loop-k.invariant in
    omega arith

pub returns : goal.returns
returns c =
    let e = leading_end c.args.room.now c.loop-k.k c.loop-k-test.false in
    let v = c.loop-k.invariant in
    omega arith
