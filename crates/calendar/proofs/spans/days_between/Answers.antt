-- `days_between` meets its contract.
-- Assumes nothing.
use mathlib.Core.Path.{sym, ◌∙◌}
use Rattle.dates.specs.Laws.{number_known, number_unknown}
use Rattle.calendar.specs.Check.{bad_first, bad_last, span_numbers}
use Rattle.calendar.proofs.spans.days_between.Goals as goal

pub returns-in_err-from : goal.returns-in_err-from
returns-in_err-from c = c.from_residual.ensures ∙ bad_first c.args.first c.args.last (number_unknown c.args.first (sym c.day_number.ensures ∙ c.in_err-from.was))

pub returns-in_err-to : goal.returns-in_err-to
returns-in_err-to c =
    c.from_residual-in_err-to.ensures
    ∙ bad_last c.args.first c.args.last (number_known c.args.first (sym c.day_number.ensures ∙ c.in_ok-from.was)).0 (number_unknown c.args.last (sym c.day_number-2.ensures ∙ c.in_err-to.was))

pub returns : goal.returns
returns c =
    let a = c.args in
    c.days_from.ensures
    ∙ span_numbers a.first a.last (number_known a.first (sym c.day_number.ensures ∙ c.in_ok-from.was)) (number_known a.last (sym c.day_number-2.ensures ∙ c.in_ok-to.was))
