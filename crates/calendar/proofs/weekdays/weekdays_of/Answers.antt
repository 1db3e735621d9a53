-- `weekdays_of` meets its contract: after k turns the byte is that of the first k days.
-- Assumes nothing.
use mathlib.Core.Path.{refl}
use Rattle.calendar.specs.Week.{week_of}
use Rattle.calendar.specs.WeekLaws.{week_step}
use Rattle.calendar.proofs.weekdays.weekdays_of.Goals as goal

pub loop-k-init : goal.loop-k-init
unfolding week_of
loop-k-init c = refl

pub loop-k-preserved : goal.loop-k-preserved
loop-k-preserved c =
    let a = c.args in
    let l = c.loop-k in
    week_step a.days.now a.first l.k c.weekday.ensures l.invariant c.marked-week.ensures
