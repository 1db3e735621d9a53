-- `is_outside` meets its contract.
-- Assumes nothing.
use mathlib.Core.Path.{sym, ap, ◌∙◌}
use Rattle.period.specs.Pops.{pop_told_lem}
use Rattle.stages.specs.Stage.{outside_by}
use Rattle.service_tests.proofs.is_outside.Goals as goal

pub returns-in-Some : goal.returns-in-Some
returns-in-Some c =
    let a = c.args in
    let k = pop_told_lem a.wish a.s.now a.at (sym c.pop_at.ensures ∙ c.in-Some.is) in
    c.is_past.ensures ∙ sym (ap (outside_by a.first) k.period)
