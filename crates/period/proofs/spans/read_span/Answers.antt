-- `read_span` meets its contract.
-- Assumes nothing.
use mathlib.Core.Path.{sym, ◌∙◌}
use Rattle.period.specs.Tests.{not_long, no_stroke, no_first, no_last, two_dates}
use Rattle.period.proofs.spans.read_span.Goals as goal

pub returns-then-text-ne21 : goal.returns-then-text-ne21
returns-then-text-ne21 c = not_long c.args.text.now c.if-text-ne21.true

pub returns-then-text-ne47 : goal.returns-then-text-ne47
returns-then-text-ne47 c = no_stroke c.args.text.now c.if-text-ne21.false c.if-text-ne47.true

pub returns-in_err-first : goal.returns-in_err-first
returns-in_err-first c =
    c.from_residual.ensures ∙ no_first c.args.text.now c.if-text-ne21.false c.if-text-ne47.false (sym c.read_date.ensures ∙ c.in_err-first.was)

pub returns-in_err-last : goal.returns-in_err-last
returns-in_err-last c =
    c.from_residual-in_err-last.ensures ∙ no_last c.args.text.now c.if-text-ne21.false c.if-text-ne47.false (sym c.read_date.ensures ∙ c.in_ok-first.was) (sym c.read_date-2.ensures ∙ c.in_err-last.was)

pub returns : goal.returns
returns c =
    c.days_between.ensures ∙ two_dates c.args.text.now c.if-text-ne21.false c.if-text-ne47.false (sym c.read_date.ensures ∙ c.in_ok-first.was) (sym c.read_date-2.ensures ∙ c.in_ok-last.was)
