-- `day_runs` meets its contract.
-- Assumes nothing.
use mathlib.Core.Path.{◌∙◌}
use borrow.Author.Tests.{le-ltb}
use Rattle.parts.specs.Places.{bytes_of}
use Rattle.period.specs.Tests.{runs_past, runs_inside, runs_wrong}
use Rattle.period.proofs.runs.day_runs.Goals as goal

pub returns-then-k-period : goal.returns-then-k-period
returns-then-k-period c =
    let a = c.args in
    runs_inside (bytes_of a.s.now a.segment) c.in-Ok.is c.if-k-period.true c.form_runs.ensures

pub returns-else-k-period : goal.returns-else-k-period
returns-else-k-period c =
    let a = c.args in
    le-ltb a.k c.in-Ok.period.days.count c.if-k-period.false ∙ runs_past (bytes_of a.s.now a.segment) c.in-Ok.is c.if-k-period.false

pub returns-in-Err : goal.returns-in-Err
returns-in-Err c =
    let a = c.args in
    runs_wrong (bytes_of a.s.now a.segment) a.k c.in-Err.is
