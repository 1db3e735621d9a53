-- `write_weekdays` meets its contract.
-- Assumes nothing.
use mathlib.Core.Path.{sym, ◌∙◌}
use Rattle.calendar.specs.Parts.{checked_small, no_day, not_whole, weekdays_good, weekdays_bad}
use Rattle.calendar.proofs.weekdays.write_weekdays.Goals as goal
use Rattle.calendar.proofs.weekdays.write_weekdays.Goals.{then-week-eq0-via-then-week-eq0, then-week-eq0-via-else-week-eq0+then-not-all_on}

pub returns-in_default : goal.returns-in_default
returns-in_default c = weekdays_bad c.args.days.now c.args.first c.args.last c.args.out.now (sym c.check.ensures ∙ c.in_default.is)

pub weekdays_of-week-requires : goal.weekdays_of-week-requires
weekdays_of-week-requires c = checked_small c.args.days.now c.args.first c.args.last (sym c.check.ensures ∙ c.in-Some.is)

pub all_on-requires : goal.all_on-requires
all_on-requires c = checked_small c.args.days.now c.args.first c.args.last (sym c.check.ensures ∙ c.in-Some.is)

pub returns-then-week-eq0 : goal.returns-then-week-eq0
returns-then-week-eq0 c =
    let a = c.args in
    let s = sym c.check.ensures ∙ c.in-Some.is in
    elim c.then-week-eq0.branch [
      | then-week-eq0-via-then-week-eq0 w ↦ no_day a.days.now a.first a.last s a.out.now c.weekdays_of-week.ensures w.if-week-eq0.true
      | then-week-eq0-via-else-week-eq0+then-not-all_on w ↦ not_whole a.days.now a.first a.last s a.out.now c.weekdays_of-week.ensures w.if-week-eq0.false (sym w.all_on.ensures ∙ w.if-not-all_on.true)
    ]

pub returns : goal.returns
returns c =
    let a = c.args in
    weekdays_good a.days.now a.first a.last (sym c.check.ensures ∙ c.in-Some.is) a.out.now c.weekdays_of-week.ensures c.if-week-eq0.false (sym c.all_on.ensures ∙ c.if-not-all_on.false) c.weekday_digits.ensures c.write_named.ensures
