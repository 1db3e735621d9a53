-- `read_date` meets its contract.
-- Assumes nothing.
use mathlib.Core.Path.{sym, ◌∙◌}
use native.Mathlib.Omega.{arith}
use Rattle.dates.specs.Read.{no_room_to_read, no_first_hyphen, no_second_hyphen, no_year, no_month, no_day, all_read}
use Rattle.dates.proofs.reading.read_date.Goals as goal
use Rattle.dates.proofs.reading.read_date.Goals.{then-text-lt10-via-then-text-lt10, then-text-lt10-via-else-text-lt10+then-text-at, then-text-at-ne45-via-then-text-at-ne45, then-text-at-ne45-via-else-text-at-ne45+then-text-at-ne45-2}

pub returns-then-text-lt10 : goal.returns-then-text-lt10
returns-then-text-lt10 c =
    elim c.then-text-lt10.branch [
      | then-text-lt10-via-then-text-lt10 w ↦ no_room_to_read c.args.text.now c.args.at (omega arith)
      | then-text-lt10-via-else-text-lt10+then-text-at w ↦ no_room_to_read c.args.text.now c.args.at (omega arith)
    ]

pub returns-then-text-at-ne45 : goal.returns-then-text-at-ne45
returns-then-text-at-ne45 c =
    let a = c.args in
    elim c.then-text-at-ne45.branch [
      | then-text-at-ne45-via-then-text-at-ne45 w ↦ no_first_hyphen a.text.now a.at (omega arith) w.if-text-at-ne45.true
      | then-text-at-ne45-via-else-text-at-ne45+then-text-at-ne45-2 w ↦ no_second_hyphen a.text.now a.at (omega arith) w.if-text-at-ne45.false w.if-text-at-ne45-2.true
    ]

pub returns-in_err-year : goal.returns-in_err-year
returns-in_err-year c =
    let a = c.args in
    c.from_residual.ensures
    ∙ no_year a.text.now a.at (omega arith) c.if-text-at-ne45.false c.if-text-at-ne45-2.false (sym c.year_at.ensures ∙ c.in_err-year.was)

pub returns-in_err-month : goal.returns-in_err-month
returns-in_err-month c =
    let a = c.args in
    c.from_residual-in_err-month.ensures
    ∙ no_month a.text.now a.at (omega arith) c.if-text-at-ne45.false c.if-text-at-ne45-2.false (sym c.year_at.ensures ∙ c.in_ok-year.was) (sym c.digits_at.ensures ∙ c.in_err-month.was)

pub returns-in_err-day : goal.returns-in_err-day
returns-in_err-day c =
    let a = c.args in
    c.from_residual-in_err-day.ensures
    ∙ no_day a.text.now a.at (omega arith) c.if-text-at-ne45.false c.if-text-at-ne45-2.false (sym c.year_at.ensures ∙ c.in_ok-year.was) (sym c.digits_at.ensures ∙ c.in_ok-month.was) (sym c.digits_at-2.ensures ∙ c.in_err-day.was)

pub returns : goal.returns
returns c =
    let a = c.args in
    all_read a.text.now a.at (omega arith) c.if-text-at-ne45.false c.if-text-at-ne45-2.false (sym c.year_at.ensures ∙ c.in_ok-year.was) (sym c.digits_at.ensures ∙ c.in_ok-month.was) (sym c.digits_at-2.ensures ∙ c.in_ok-day.was) c.new.ensures
