-- `is_any_outside` meets its contract.
-- Assumes nothing.
use mathlib.Core.Path.{sym, ap, ◌∙◌}
use Rattle.stages.specs.Stage.{outside_by}
use Rattle.service_tests.specs.Ways.{period_read}
use Rattle.service_tests.proofs.is_any_outside.Goals as goal

pub returns-in-Err : goal.returns-in-Err
returns-in-Err c =
    let a = c.args in
    let e = period_read a.wish a.s.now a.at c.segment_at.result c.read_period.result _ c.segment_at.ensures c.read_period.ensures.period c.in-Err.is in
    sym (ap (outside_by a.first) e)

pub returns-in-Ok : goal.returns-in-Ok
returns-in-Ok c =
    let a = c.args in
    let e = period_read a.wish a.s.now a.at c.segment_at.result c.read_period.result _ c.segment_at.ensures c.read_period.ensures.period c.in-Ok.is in
    c.is_past.ensures ∙ sym (ap (outside_by a.first) e)
