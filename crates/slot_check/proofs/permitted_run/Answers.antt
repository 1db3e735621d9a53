-- `slot_check::permitted_run` meets its contract. Invariant: those passed and those that still lead are all that lead.
-- Assumes nothing.
use mathlib.Core.Path.{sym, ◌∙◌}
use native.Mathlib.Omega.{arith}
use native.Mathlib.Nat.{zero-add}
use Rattle.syntax.specs.Segment.{permitted_run}
use Rattle.slot_check.specs.Number.{run_end, run_stop, run_on}
use Rattle.slot_check.proofs.permitted_run.Goals as goal

pub loop-i-init : goal.loop-i-init
loop-i-init c = zero-add (permitted_run c.args.x.now)

pub returns-then-not-permitted : goal.returns-then-not-permitted
returns-then-not-permitted c =
    let e = run_stop c.args.x.now c.loop-i.i c.loop-i-test.true (sym c.permitted.ensures ∙ c.if-not-permitted.true) in
    let v = c.loop-i.invariant in
    omega arith

pub loop-i-preserved : goal.loop-i-preserved
loop-i-preserved c =
    let e = run_on c.args.x.now c.loop-i.i c.loop-i-test.true (sym c.permitted.ensures ∙ c.if-not-permitted.false) in
    let v = c.loop-i.invariant in
    omega arith

pub returns : goal.returns
returns c =
    let e = run_end c.args.x.now c.loop-i.i c.loop-i-test.false in
    let v = c.loop-i.invariant in
    omega arith
