-- `set_if` meets its contract.
-- Assumes nothing.
use mathlib.Core.Path.{sym, ap, ◌∙◌}
use mathlib.Core.Bool.{Bool}
use Rattle.laws.specs.Choice.{pick}
use Rattle.calendar.specs.Days.{with_day}
use Rattle.joining.proofs.set_if.Goals as goal

pub returns-then-not-wanted : goal.returns-then-not-wanted
returns-then-not-wanted c =
    let a = c.args in
    sym (ap (λ (x : Bool). pick x (with_day a.days.now a.k) a.days.now) (c.if-not-wanted.true))

pub returns : goal.returns
returns c =
    let a = c.args in
    c.set_day.ensures ∙ sym (ap (λ (x : Bool). pick x (with_day a.days.now a.k) a.days.now) (c.if-not-wanted.false))
