-- `written_span` meets its contract.
-- Assumes nothing.
use mathlib.Core.Path.{sym, ◌∙◌}
use Rattle.calendar.specs.Check.{span_numbers}
use Rattle.period.specs.Dated.{day_known}
use Rattle.period.specs.Written.{word_same, begins_told}
use Rattle.period.proofs.written.written_span.Goals as goal

pub day_at-requires : goal.day_at-requires
day_at-requires c = (c.are_dates.ensures (c.if-not-are_dates.false)).first

pub day_at-requires-2 : goal.day_at-requires-2
day_at-requires-2 c = let r = c.are_dates in (r.ensures (c.if-not-are_dates.false)).last

pub returns : goal.returns
returns c =
    let g = c.args.g.now in
    let r = c.are_dates in
    let d = r.ensures (c.if-not-are_dates.false) in
    let a = day_known g 8 d.first (sym c.day_at.ensures ∙ c.in_ok-first.was) in
    let b = day_known g 19 d.last (sym c.day_at-2.ensures ∙ c.in_ok-last.was) in
    begins_told g c.if-g-lt29.false a.read b.read d.stroke
    (word_same c.word.ensures c.word-2.ensures c.if-word.false) (word_same c.word-3.ensures c.word-4.ensures c.if-word-2.false)
    c.days_from.result (c.days_from.ensures ∙ span_numbers a.date b.date a.told b.told)
