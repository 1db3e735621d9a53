-- `put_start` meets its contract.
-- Assumes nothing.
use Rattle.calendar.specs.Parts.{start_refused, start_put}
use Rattle.calendar.proofs.start.put_start.Goals as goal

pub returns-then-out-lt29 : goal.returns-then-out-lt29
returns-then-out-lt29 c =
    let a = c.args in
    start_refused a.first a.last a.out.now c.if-out-lt29.true

pub returns : goal.returns
returns c =
    let a = c.args in
    start_put a.first a.last a.out.now c.if-out-lt29.false c.put_bytes.ensures.1 c.text-from.ensures c.put_bytes-2.ensures.1 c.put_bytes-3.ensures.1
    c.text-to.ensures c.put_bytes-4.ensures.1
