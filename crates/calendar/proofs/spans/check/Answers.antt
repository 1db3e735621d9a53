-- `check` meets its contract.
-- Assumes nothing.
use mathlib.Core.Path.{sym, ◌∙◌}
use Rattle.calendar.specs.Check.{bad_length, bad_span, bad_past, good}
use Rattle.calendar.proofs.spans.check.Goals as goal

pub returns-then-days-ne64 : goal.returns-then-days-ne64
returns-then-days-ne64 c = bad_length c.args.days.now c.args.first c.args.last c.if-days-ne64.true

pub returns-in_err-span : goal.returns-in_err-span
returns-in_err-span c =
    c.from_residual.ensures
    ∙ bad_span c.args.days.now c.args.first c.args.last c.if-days-ne64.false (sym c.days_between.ensures ∙ c.in_err-span.was)

pub returns-then-any_day : goal.returns-then-any_day
returns-then-any_day c = bad_past c.args.days.now c.args.first c.args.last c.if-days-ne64.false (sym c.days_between.ensures ∙ c.in_ok-span.was) (sym c.any_day.ensures ∙ c.if-any_day.true)

pub returns : goal.returns
returns c = good c.args.days.now c.args.first c.args.last c.if-days-ne64.false (sym c.days_between.ensures ∙ c.in_ok-span.was) (sym c.any_day.ensures ∙ c.if-any_day.false)
