use mathlib.Core.Path.{sym, ap, ◌∙◌}
use Rattle.dates.specs.Dates.{number_of}
use Rattle.services.specs.Services.{periods_from}
use Rattle.desk.specs.Desk.{reply_of, day_date}
use Rattle.desk.specs.Days.{not_64, no_first, from_first}
use borrow.Author.Rules.{rules}
use Rattle.desk.proofs.reading.drumcallisto_days.Goals as goal

-- src/reading.rt:120:9
pub returns-then-days-ne64 : goal.returns-then-days-ne64
returns-then-days-ne64 c =
    let a = c.args in
    let s = a.s.now in
    let p = periods_from a.rows.now a.among.from a.among.to in
    let w = not_64 a.wish s p (day_date a.first) a.days.now c.if-days-ne64.true in
    record {
      told = c.refused.ensures ∙ ap reply_of w.0;
      left = w.1;
    }

-- src/reading.rt:123:9
pub returns-in_default : goal.returns-in_default
returns-in_default c =
    let a = c.args in
    let s = a.s.now in
    let p = periods_from a.rows.now a.among.from a.among.to in
    let q = ap number_of (sym c.date_of.ensures) ∙ sym c.day_number.ensures ∙ c.in_default.is in
    let w = no_first a.wish s p (day_date a.first) a.days.now c.if-days-ne64.false q in
    record {
      told = c.refused-in_default.ensures ∙ ap reply_of w.0;
      left = w.1;
    }

-- src/reading.rt:107:1
pub returns : goal.returns
returns c =
    let a = c.args in
    let s = a.s.now in
    let p = periods_from a.rows.now a.among.from a.among.to in
    let r = c.write_days.ensures in
    let q = ap number_of (sym c.date_of.ensures) ∙ sym c.day_number.ensures ∙ c.in-Some.is in
    let w = from_first a.wish s p (day_date a.first) a.days.now c.if-days-ne64.false _ q in
    record {
      told = r.told ∙ ap reply_of w.0;
      left = r.left ∙ w.1;
    }
