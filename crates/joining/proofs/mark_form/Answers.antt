-- `mark_form` meets its contract.
-- Assumes nothing.
use mathlib.Core.Path.{refl}
use mathlib.Core.Bool.{true}
use Prim.Native.Nat.{◌+◌, ◌*◌, ◌≤◌}
use native.Mathlib.Omega.{arith}
use lib.ListN.{length}
use Rattle.period.specs.Facts.{good_bounds, good_rising}
use Rattle.joining.specs.Weeks.{marked_every, marked_week, marked_string}
use Rattle.joining.specs.Places.{dated, spoken}
use Rattle.joining.proofs.mark_form.Goals.{Start}
use Rattle.joining.proofs.mark_form.Goals as goal

-- what marking asks of a good period's days
bounded : (s : Start) → (1 ≤ s.args.period.days.count) × (s.args.at + s.args.period.days.count ≤ 8 * length s.args.days.now) × (s.args.at + s.args.period.days.count ≤ 65536) × (s.args.period.days.first + s.args.period.days.count ≤ 65536)
bounded s =
    let b = good_bounds true s.args.g.now s.args.period.days.first s.args.period.days.count s.args.period.form s.requires.2 in
    let i = b.inside in
    (b.some, s.requires.0, s.requires.1, omega arith)

pub mark_weekdays-requires : goal.mark_weekdays-requires
mark_weekdays-requires c = bounded (goal.at.mark_weekdays-requires c).Start

pub mark_string-requires : goal.mark_string-requires
mark_string-requires c =
    let b = bounded (goal.at.mark_string-requires c).Start in
    (b.1, b.2, spoken c.args.g.now c.args.period.days.first c.args.period.days.count c.requires.2 c.in-ByString.is)

pub week_in-requires : goal.week_in-requires
week_in-requires c =
    let a = c.args in
    dated a.g.now a.period.days.first a.period.days.count c.requires.2

pub mark_weekdays-requires-in-ByWeekdays : goal.mark_weekdays-requires-in-ByWeekdays
mark_weekdays-requires-in-ByWeekdays c = bounded (goal.at.mark_weekdays-requires-in-ByWeekdays c).Start

pub returns-in-Every : goal.returns-in-Every
returns-in-Every c =
    let a = c.args in
    marked_every a.g.now a.days.now a.at a.period.days.first a.period.days.count c.in-Every.is c.mark_weekdays.ensures

pub returns-in-ByString : goal.returns-in-ByString
returns-in-ByString c =
    let a = c.args in
    marked_string a.g.now a.days.now a.at a.period.days.first a.period.days.count c.in-ByString.is refl c.mark_string.ensures

pub returns-in-ByWeekdays : goal.returns-in-ByWeekdays
returns-in-ByWeekdays c =
    let a = c.args in
    let r = good_rising true a.g.now a.period.days.first a.period.days.count a.period.form c.requires.2 in
    marked_week a.g.now a.days.now a.at a.period.days.first a.period.days.count r c.in-ByWeekdays.is refl c.week_in.ensures c.mark_weekdays-in-ByWeekdays.ensures
