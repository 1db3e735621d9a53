-- `placing::Place::step` meets its contract. Assumes nothing.
use mathlib.Core.Path.{sym, ◌∙◌}
use Rattle.placing.specs.Said.{step_said}
use Rattle.placing.proofs.Walks.{turn_settled, turn_last, turn_up, step_start}
use Rattle.placing.proofs.Place.step.Goals as goal

pub loop-stepped-init : goal.loop-stepped-init
loop-stepped-init c =
    let a = c.args in
    step_start a.table.now a.self a.tag c.level_of-level.result c.level_of-level.ensures

pub returns-in-Break : goal.returns-in-Break
returns-in-Break c =
    let a = c.args in
    let l = c.loop-stepped in
    let e = sym (turn_settled a.table.now a.self a.tag l.level l.row c.in-Break.stepped (sym c.turn.ensures ∙ c.in-Break.is)) ∙ l.invariant in
    let s = step_said a.table.now a.self a.tag e in
    record { step = s.0; said = s.1 }

pub returns-then-level-eq0 : goal.returns-then-level-eq0
returns-then-level-eq0 c =
    let a = c.args in
    let l = c.loop-stepped in
    let e = sym (turn_last a.table.now a.self a.tag l.level l.row c.if-level-eq0.true (sym c.turn.ensures ∙ c.in_default.is)) ∙ l.invariant in
    let s = step_said a.table.now a.self a.tag e in
    record { step = s.0; said = s.1 }

pub loop-stepped-preserved : goal.loop-stepped-preserved
loop-stepped-preserved c =
    let a = c.args in
    let l = c.loop-stepped in
    rw c.entry-row.ensures (sym (turn_up a.table.now a.self a.tag l.level l.row c.if-level-eq0.false (sym c.turn.ensures ∙ c.in_default.is)) ∙ l.invariant)
