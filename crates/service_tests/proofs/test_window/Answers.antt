-- `test_window` meets its contract.
-- Assumes nothing.
use mathlib.Core.Path.{sym, ap, ◌∙◌}
use Rattle.services.specs.Walks.{periods_left}
use Rattle.stages.specs.Stage.{first_outside}
use Rattle.service_tests.specs.Ways.{outside_none, outside_here, outside_on}
use Rattle.service_tests.proofs.test_window.Goals as goal

pub loop-at-init : goal.loop-at-init
loop-at-init c =
    let a = c.args in
    ap (first_outside a.wish a.first a.s.now) (ap periods_left c.into_iter-at-iterator.ensures.into_iter_gives ∙ c.among-at-items.ensures)

pub returns-then-is_outside : goal.returns-then-is_outside
returns-then-is_outside c =
    let a = c.args in
    outside_here a.wish a.first a.s.now (periods_left c.loop-at.at-iterator) c.in-Some.at (periods_left c.next.new.self) c.in-Some.ensures.steps (sym c.is_outside.ensures ∙ c.if-is_outside.true)
    ∙ c.loop-at.invariant

pub loop-at-preserved : goal.loop-at-preserved
loop-at-preserved c =
    let a = c.args in
    outside_on a.wish a.first a.s.now (periods_left c.loop-at.at-iterator) c.in-Some.at (periods_left c.next.new.self) c.in-Some.ensures.steps (sym c.is_outside.ensures ∙ c.if-is_outside.false)
    ∙ c.loop-at.invariant

pub returns : goal.returns
returns c =
    let a = c.args in
    outside_none a.wish a.first a.s.now (periods_left c.loop-at.at-iterator) c.in-None.ensures.steps.0 ∙ c.loop-at.invariant
