-- `write_named` meets its contract.
-- Assumes nothing.
use native.Mathlib.Omega.{arith}
use Rattle.calendar.specs.Parts.{named_refused, named_put}
use Rattle.calendar.proofs.weekdays.write_named.Goals as goal
use Rattle.calendar.proofs.weekdays.write_named.Goals.{then-out-lt31-via-then-out-lt31, then-out-lt31-via-else-out-lt31+then-out-n}

pub returns-then-out-lt31 : goal.returns-then-out-lt31
returns-then-out-lt31 c =
    let a = c.args in
    elim c.then-out-lt31.branch [
      | then-out-lt31-via-then-out-lt31 w ↦ named_refused a.first a.last a.weekdays.now a.out.now (omega arith)
      | then-out-lt31-via-else-out-lt31+then-out-n w ↦ named_refused a.first a.last a.weekdays.now a.out.now (omega arith)
    ]

pub returns : goal.returns
returns c =
    let a = c.args in
    named_put a.first a.last a.weekdays.now a.out.now (omega arith) c.put_start.ensures c.put_bytes.ensures.1 c.put_bytes-2.ensures.1 c.put_bytes-3.ensures.1
