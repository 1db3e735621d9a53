-- `month_of` meets its contract: the days of the whole months passed, and those left, are the day of the year.
-- Assumes nothing.
use native.Mathlib.Omega.{arith}
use Rattle.dates.specs.Back.{no_months_yet, next_month}
use Rattle.dates.proofs.days.month_of.Goals as goal

pub loop-month-init : goal.loop-month-init
loop-month-init c = no_months_yet c.args.year c.args.day

pub loop-month-preserved : goal.loop-month-preserved
loop-month-preserved c =
    let l = c.loop-month in
    (next_month c.args.year l.month l.left c.args.day c.requires l.auto.month (omega (arith, l.auto.month-end)) l.invariant c.month_length-length.ensures c.if-left-length.false).2
