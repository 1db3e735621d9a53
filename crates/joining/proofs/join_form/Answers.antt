-- `join_form` meets its contract.
-- Assumes nothing.
use mathlib.Core.Bool.{true}
use native.Mathlib.Omega.{arith}
use Rattle.period.specs.Facts.{good_bounds}
use Rattle.joining.specs.Told.{before_window, past_window, in_window_lem}
use Rattle.joining.proofs.join_form.Goals as goal

pub returns-then-first-origin : goal.returns-then-first-origin
returns-then-first-origin c =
    let a = c.args in
    before_window a.days.now a.origin a.g.now a.period.days.first a.period.days.count a.period.form c.if-first-origin.true

pub overflow_add-at : goal.overflow_add-at
overflow_add-at c =
    let b = (good_bounds true c.args.g.now c.args.period.days.first c.args.period.days.count c.args.period.form c.requires).inside in
    omega arith

pub overflow_sub-at-2 : goal.overflow_sub-at-2
overflow_sub-at-2 c =
    let b = (good_bounds true c.args.g.now c.args.period.days.first c.args.period.days.count c.args.period.form c.requires).some in
    omega arith

pub returns-then-days-at : goal.returns-then-days-at
returns-then-days-at c =
    let a = c.args in
    let b = (good_bounds true a.g.now a.period.days.first a.period.days.count a.period.form c.requires).some in
    past_window a.days.now a.origin a.g.now a.period.days.first a.period.days.count a.period.form c.if-first-origin.false (omega arith)

pub mark_form-requires : goal.mark_form-requires
mark_form-requires c =
    let b = good_bounds true c.args.g.now c.args.period.days.first c.args.period.days.count c.args.period.form c.requires in
    let i = b.inside in
    let o = b.some in
    (omega arith, omega arith, c.requires)

pub returns : goal.returns
returns c =
    let a = c.args in
    let b = (good_bounds true a.g.now a.period.days.first a.period.days.count a.period.form c.requires).some in
    in_window_lem a.days.now a.origin a.g.now a.period.days.first a.period.days.count a.period.form (omega arith) (omega arith) c.mark_form.ensures
