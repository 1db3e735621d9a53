-- `days_from` meets its contract.
-- Assumes nothing.
use Rattle.calendar.specs.Check.{bad_order, bad_many, good_span}
use Rattle.calendar.proofs.spans.days_from.Goals as goal
use Rattle.calendar.proofs.spans.days_from.Goals.{then-to-from-via-then-to-from, then-to-from-via-else-to-from+then-to-from-ge512}

pub returns-then-to-from : goal.returns-then-to-from
returns-then-to-from c =
    let a = c.args in
    elim c.then-to-from.branch [
      | then-to-from-via-then-to-from w ↦ bad_order a.from a.to w.if-to-from.true
      | then-to-from-via-else-to-from+then-to-from-ge512 w ↦ bad_many a.from a.to w.if-to-from.false w.if-to-from-ge512.true
    ]

pub returns : goal.returns
returns c = let a = c.args in good_span a.from a.to c.if-to-from.false c.if-to-from-ge512.false
